use Rattle.std.proofs.Common.{◌≡◌, ◌+◌, ◌^◌, ◌%◌, ◌∙◌, ap, sym, subst, lit≤, arith}
use Rattle.theory_ring.specs.Ring.{difference}
use Rattle.theory_substitution.specs.RuleParts.{vertex}
use Rattle.cyclo_points.specs.Order.{PointsLaw, points_of}
use Rattle.cyclo_points.specs.Point.{point_in}
use Rattle.cyclo_points.specs.Motion.{motion_in}
use Rattle.cyclo_points.proofs.Within.{point_wider}
use Rattle.rule_model.specs.declared.rule.Rule.{Rule}
use Rattle.rule_model.specs.Tiling.{tiling_of}
use Rattle.rule_model.specs.Views.{rule_of}
use Rattle.tile_place.specs.Glued.{IsMotionAcross}
use Rattle.tile_place.specs.TurnedVertices.{turned_by}
use Rattle.tile_place.proofs.Gluing.{across}
use Rattle.tile_place.proofs.machine.Machine.motion_across.Goals as goal

pub add-requires-clause-p_within : goal.add-requires-clause-p_within
add-requires-clause-p_within c = point_wider (2 ^ 7) (2 ^ 40) _ (lit≤ tt) c.end_of-end.ensures.within

pub add-requires-clause-q_within : goal.add-requires-clause-q_within
add-requires-clause-q_within c = point_wider (2 ^ 24) (2 ^ 40) _ (lit≤ tt) c.requires.shift_within

pub sub-requires-clause-p_within : goal.sub-requires-clause-p_within
sub-requires-clause-p_within c = point_wider (2 ^ 7 + 2 ^ 24) (2 ^ 40) _ (lit≤ tt)
    (c.add.ensures.bounded (2 ^ 7) (2 ^ 24) c.end_of-end.ensures.within c.requires.shift_within)

pub sub-requires-clause-q_within : goal.sub-requires-clause-q_within
sub-requires-clause-q_within c = point_wider (2 ^ 7) (2 ^ 40) _ (lit≤ tt) c.start_of-start.ensures.within

pub returns-clause-across : goal.returns-clause-across
returns-clause-across c =
    let m = c.args.self.now in
    let o = m.order in
    let same = c.order-order.ensures.order ∙ ap (λ (r : Rule). r.order) c.checked.ensures.rule in
    let n = c.n.ensures ∙ ap (λ o. (points_of o).order) same in
    let k = c.args.kind in
    let e = c.args.edge in
    let l = c.args.other in
    let f = c.args.other_edge in
    let at = c.args.motion.now in
    let g = c.glue_turn.result in
    subst (λ i. IsMotionAcross (tiling_of m) k e l f (motion_in o at) (record { turn = (at.turn + g) % i; shift = point_in o c.sub.result })) (sym n)
    (across m (subst PointsLaw same c.points_law.ensures) k e l f g c.glue_turn.ensures.below c.glue_turn.ensures.turns at.turn (point_in o at.shift)
    (point_in o c.end_of-end.result) (point_in o c.start_of-start.result) (point_in o c.sub.result) c.end_of-end.ensures.place
    (subst (λ i. point_in o c.start_of-start.result ≡ turned_by o ((at.turn + g) % i)
    (vertex (points_of o) (rule_of m) l f)) n c.start_of-start.ensures.place)
    (c.sub.ensures.is_difference o ∙ ap (λ z. difference (points_of o).ring z (point_in o c.start_of-start.result)) (c.add.ensures.sum o)))

pub returns-clause-in_order : goal.returns-clause-in_order
returns-clause-in_order c =
    let o = c.args.self.now.order in
    c.sub.ensures.in_order o (c.add.ensures.in_order o c.end_of-end.ensures.in_order c.requires.in_order) c.start_of-start.ensures.in_order

pub returns-clause-bounded : goal.returns-clause-bounded
returns-clause-bounded c = λ k h.
    point_wider (2 ^ 7 + k + 2 ^ 7) (k + 2 ^ 8) _ (omega arith)
    (c.sub.ensures.bounded (2 ^ 7 + k) (2 ^ 7) (c.add.ensures.bounded (2 ^ 7) k c.end_of-end.ensures.within h) c.start_of-start.ensures.within)
