use Rattle.std.proofs.Common.{◌≡◌, ◌<◌, ◌^◌, sym, ap, ◌∙◌, subst, lit≤}
use Rattle.cyclo_points.specs.Motion.{motion_in}
use Rattle.cyclo_points.specs.Order.{points_of}
use Rattle.cyclo_points.proofs.Within.{point_wider}
use Rattle.theory_substitution.specs.Motion.{followed}
use Rattle.rule_model.specs.declared.rule.Rule.{Rule}
use Rattle.half_glue.proofs.LookUp.{each-number}
use Rattle.half_glue.proofs.tile_search.TileSearch.given_half.Goals as goal

pub returns : goal.returns
returns c =
    let m = c.args.self.now.machine.now in
    let same : c.order-order.result ≡ m.order = c.order-order.ensures.order ∙ ap (λ (r : Rule). r.order) c.checked.ensures.rule in
    let motion = c.compose-motion.result in
    each-number m.order c.args.side.now.other c.in_ok-other.other c.in_ok-other.was c.args.tile.now.motion motion
    (record {
      followed_by = subst (λ o. motion_in o motion ≡ followed (points_of o)
          (motion_in o c.in_ok-other.other.glue) (motion_in o c.args.tile.now.motion)) same
          c.compose-motion.ensures.followed_by;
      within = c.refused.ensures.within c.if-refused.false;
      turn_below = subst (λ o. motion.turn < (points_of o).order) same c.compose-motion.ensures.turn_below;
    })
    c.args.self.now.keys.now c.number_of.result c.number_of.ensures.found

pub compose-motion-requires-clause-f_below_order : goal.compose-motion-requires-clause-f_below_order
compose-motion-requires-clause-f_below_order c =
    let same = c.order-order.ensures.order ∙ ap (λ (r : Rule). r.order) c.checked.ensures.rule in
    subst (λ o. c.args.tile.now.motion.turn < (points_of o).order) (sym same) c.requires.motion.turn_below

pub compose-motion-requires-clause-f_within : goal.compose-motion-requires-clause-f_within
compose-motion-requires-clause-f_within c = point_wider (2 ^ 24) (2 ^ 38) _ (lit≤ tt) c.requires.motion.within

pub number_of-requires-clause-sorted : goal.number_of-requires-clause-sorted
number_of-requires-clause-sorted c = c.requires.sought.keys.sorted
