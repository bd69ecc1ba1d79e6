use Rattle.std.proofs.Common.{◌≡◌, ◌*◌, ◌^◌, ap, ◌∙◌, subst, lit≤}
use Rattle.cyclo_points.specs.Point.{IsOf}
use Rattle.cyclo_points.proofs.Within.{point_wider}
use Rattle.rule_model.specs.declared.rule.Rule.{Rule}
use Rattle.lazy_walk.proofs.Outs.{out_is}
use Rattle.lazy_walk.proofs.ancestor.one_out.Goals as goal

pub mul-scaled-requires-clause-p_within : goal.mul-scaled-requires-clause-p_within
mul-scaled-requires-clause-p_within c = point_wider (2 ^ 24) (2 ^ 32) _ (lit≤ tt) c.requires.power_within

pub mul-scaled-requires-clause-q_within : goal.mul-scaled-requires-clause-q_within
mul-scaled-requires-clause-q_within c = point_wider 64 (2 ^ 16) _ (lit≤ tt) c.child-child.ensures.small.within

pub turn-turned-requires-clause-p_within : goal.turn-turned-requires-clause-p_within
turn-turned-requires-clause-p_within c = point_wider (8 * 2 ^ 24 * 64) (2 ^ 40) _ (lit≤ tt)
    (c.mul-scaled.ensures.bounded (2 ^ 24) 64 c.requires.power_within c.child-child.ensures.small.within)

pub sub-requires-clause-p_within : goal.sub-requires-clause-p_within
sub-requires-clause-p_within c = point_wider (2 ^ 24) (2 ^ 40) _ (lit≤ tt) c.requires.moves.within

pub sub-requires-clause-q_within : goal.sub-requires-clause-q_within
sub-requires-clause-q_within c =
    point_wider (2 * (8 * 2 ^ 24 * 64)) (2 ^ 40) _ (lit≤ tt)
    (c.turn-turned.ensures.at_most_doubled (8 * 2 ^ 24 * 64)
    (c.mul-scaled.ensures.bounded (2 ^ 24) 64 c.requires.power_within c.child-child.ensures.small.within))

pub returns-clause-moved : goal.returns-clause-moved
returns-clause-moved c =
    out_is c.args.digit c.child-child.result c.args.power.now c.args.motion.now c.n-n.result c.mul-scaled.result c.turn-turned.result c.sub.result
    c.order-order.result c.checked-checked.result.now c.args.machine.now c.order-order.ensures.order
    c.checked-checked.ensures.rule c.child-child.ensures.number c.n-n.ensures
    c.mul-scaled.ensures.product c.turn-turned.ensures.turned c.sub.ensures.is_difference

pub returns-clause-in_order : goal.returns-clause-in_order
returns-clause-in_order c =
    let same : c.order-order.result ≡ c.args.machine.now.order = c.order-order.ensures.order
    ∙ ap (λ (r : Rule). r.order) c.checked-checked.ensures.rule in
    c.sub.ensures.in_order c.args.machine.now.order c.requires.moves.in_order
    (subst (λ o. IsOf o c.turn-turned.result) same c.turn-turned.ensures.in_order)
