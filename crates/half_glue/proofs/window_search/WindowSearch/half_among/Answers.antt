use Rattle.std.proofs.Common.{◌≡◌, ◌<◌, ◌^◌, sym, ap, ◌∙◌, subst, arith, lit≤}
use Rattle.std.proofs.lemmas.Grind.{elements}
use Rattle.cyclo_points.specs.Motion.{motion_in}
use Rattle.cyclo_points.specs.Order.{points_of}
use Rattle.cyclo_points.proofs.Within.{point_wider}
use Rattle.theory_substitution.specs.Motion.{followed}
use Rattle.rule_model.specs.declared.rule.Rule.{Rule}
use Rattle.half_glue.proofs.AmongTiles.{each-place}
use Rattle.half_glue.proofs.window_search.WindowSearch.half_among.Goals as goal

pub returns : goal.returns
returns c =
    let m = c.args.self.now.machine.now in
    let same : c.order-order.result ≡ m.order = c.order-order.ensures.order ∙ ap (λ (r : Rule). r.order) c.checked.ensures.rule in
    let motion = c.compose-motion.result in
    each-place m.order c.args.side.now.other c.in_ok-other.other c.in_ok-other.was c.args.own.now motion
    (record {
      followed_by = subst (λ o. motion_in o motion ≡ followed (points_of o)
          (motion_in o c.in_ok-other.other.glue) (motion_in o c.args.own.now)) same
          c.compose-motion.ensures.followed_by;
      within = c.refused.ensures.within c.if-refused.false;
      turn_below = subst (λ o. motion.turn < (points_of o).order) same c.compose-motion.ensures.turn_below;
    })
    c.args.self.now.tiles.now c.in_ok-place.place c.in_ok-place.ensures.found

pub overflow_cast-result : goal.overflow_cast-result
overflow_cast-result c = grind (arith, elements, c.requires.sought.few)

pub compose-motion-requires-clause-f_below_order : goal.compose-motion-requires-clause-f_below_order
compose-motion-requires-clause-f_below_order c =
    let same = c.order-order.ensures.order ∙ ap (λ (r : Rule). r.order) c.checked.ensures.rule in
    subst (λ o. c.args.own.now.turn < (points_of o).order) (sym same) c.requires.motion.turn_below

pub compose-motion-requires-clause-f_within : goal.compose-motion-requires-clause-f_within
compose-motion-requires-clause-f_within c = point_wider (2 ^ 24) (2 ^ 38) _ (lit≤ tt) c.requires.motion.within
