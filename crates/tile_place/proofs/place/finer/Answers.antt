use Rattle.std.proofs.Common.{◌≡◌, ◌^◌, ◌*◌, ◌+◌, ◌%◌, ◌∙◌, ap, refl, subst, lit≤}
use Rattle.theory_ring.specs.Ring.{power}
use Rattle.theory_substitution.specs.Motion.{Motion}
use Rattle.theory_substitution.specs.Rule.{Child}
use Rattle.theory_substitution.specs.Placement.{finer}
use Rattle.cyclo_points.specs.Order.{NumberOf, PointsLaw, points_of}
use Rattle.cyclo_points.specs.Point.{point_in, IsOf}
use Rattle.cyclo_points.specs.Motion.{motion_in}
use Rattle.rule_model.specs.Views.{child_in}
use Rattle.cyclo_points.proofs.Within.{point_wider}
use Rattle.tile_place.proofs.Finer.{finer_is}
use Rattle.tile_place.proofs.place.finer.Goals as goal

pub mul-inflated-requires-clause-p_within : goal.mul-inflated-requires-clause-p_within
mul-inflated-requires-clause-p_within g c = point_wider (2 ^ 24) (2 ^ 32) _ (lit≤ tt) c.requires.moves.within

pub mul-inflated-requires-clause-q_within : goal.mul-inflated-requires-clause-q_within
mul-inflated-requires-clause-q_within g c = point_wider 64 (2 ^ 16) _ (lit≤ tt) c.requires.small_factor.within

pub turn-turned-requires-clause-p_within : goal.turn-turned-requires-clause-p_within
turn-turned-requires-clause-p_within g c = point_wider 64 (2 ^ 40) _ (lit≤ tt) c.child-child.ensures.small.within

pub add-requires-clause-p_within : goal.add-requires-clause-p_within
add-requires-clause-p_within g c = point_wider (8 * 2 ^ 24 * 64) (2 ^ 40) _ (lit≤ tt)
    (c.mul-inflated.ensures.bounded (2 ^ 24) 64 c.requires.moves.within c.requires.small_factor.within)

pub add-requires-clause-q_within : goal.add-requires-clause-q_within
add-requires-clause-q_within g c = point_wider (2 * 64) (2 ^ 40) _ (lit≤ tt)
    (c.turn-turned.ensures.at_most_doubled 64 c.child-child.ensures.small.within)

pub returns-clause-moved : goal.returns-clause-moved
returns-clause-moved g c =
    let t = g.P.Placing.tiling c.args.rule.now in
    let m = c.args.motion.now in
    let child = c.child-child.result in
    let its_order : c.args.order ≡ t.order = c.requires.order in
    ap (λ k. (let moved : Motion (NumberOf t.order) = record { turn = k; shift = point_in t.order c.add.result } in moved))
    (subst (λ o. c.turn_after.result ≡ (m.turn + child.turn) % (points_of o).order) its_order c.turn_after.ensures.sum) ∙
    finer_is (points_of t.order) (subst PointsLaw its_order c.points_law.ensures) t.rule (motion_in t.order m)
    (child_in t.order child).motion (points_of t.order).order
    (point_in t.order c.args.factor.now) (point_in t.order c.mul-inflated.result)
    (point_in t.order c.turn-turned.result) (point_in t.order c.add.result)
    refl
    c.requires.factor
    (subst (λ o. point_in o c.mul-inflated.result ≡ (points_of o).ring.mul (point_in o m.shift)
    (point_in o c.args.factor.now)) its_order c.mul-inflated.ensures.product)
    (subst (λ o. point_in o c.turn-turned.result ≡ (points_of o).ring.mul
    (power (points_of o).ring (points_of o).zeta m.turn) (point_in o child.shift)) its_order
    c.turn-turned.ensures.turned)
    (c.add.ensures.sum t.order)
    ∙ ap (λ (child : Child (NumberOf t.order)). finer (points_of t.order) t.rule (motion_in t.order m) child.motion) c.child-child.ensures.number

pub returns-clause-in_order : goal.returns-clause-in_order
returns-clause-in_order g c =
    let t = g.P.Placing.tiling c.args.rule.now in
    let same : c.args.order ≡ t.order = c.requires.order in
    c.add.ensures.in_order t.order (subst (λ o. IsOf o c.mul-inflated.result) same c.mul-inflated.ensures.in_order)
    (subst (λ o. IsOf o c.turn-turned.result) same c.turn-turned.ensures.in_order)
