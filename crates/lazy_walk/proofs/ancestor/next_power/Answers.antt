use Rattle.std.proofs.Common.{◌≡◌, ◌^◌, sym, ap, ◌∙◌, subst, lit≤}
use Rattle.cyclo_points.specs.Point.{IsOf}
use Rattle.cyclo_points.proofs.Within.{point_wider}
use Rattle.rule_model.specs.declared.rule.Rule.{Rule}
use Rattle.lazy_walk.proofs.Outs.{times_factor}
use Rattle.lazy_walk.proofs.ancestor.next_power.Goals as goal

pub mul-next-requires-clause-p_within : goal.mul-next-requires-clause-p_within
mul-next-requires-clause-p_within c = point_wider (2 ^ 24) (2 ^ 32) _ (lit≤ tt) c.requires.within

pub mul-next-requires-clause-q_within : goal.mul-next-requires-clause-q_within
mul-next-requires-clause-q_within c = point_wider 64 (2 ^ 16) _ (lit≤ tt) c.factor-factor.ensures.small.within

pub returns-clause-next : goal.returns-clause-next
returns-clause-next c =
    times_factor c.order-order.result c.checked-checked.result.now c.args.machine.now c.factor-factor.result c.args.power.now c.mul-next.result
    c.order-order.ensures.order c.checked-checked.ensures.rule c.factor-factor.ensures.factor
    c.points_law.ensures.of_ring.mul_comm c.mul-next.ensures.product

pub returns-then-refused-clause-limit : goal.returns-then-refused-clause-limit
returns-then-refused-clause-limit c =
    times_factor c.order-order.result c.checked-checked.result.now c.args.machine.now c.factor-factor.result c.args.power.now c.mul-next.result
    c.order-order.ensures.order c.checked-checked.ensures.rule c.factor-factor.ensures.factor
    c.points_law.ensures.of_ring.mul_comm c.mul-next.ensures.product

pub returns-clause-unrefused : goal.returns-clause-unrefused
returns-clause-unrefused c =
    let same : c.order-order.result ≡ c.args.machine.now.order = c.order-order.ensures.order
    ∙ ap (λ (r : Rule). r.order) c.checked-checked.ensures.rule in
    sym (c.refused.ensures.in_order c.args.machine.now.order
    (subst (λ o. IsOf o c.mul-next.result) same c.mul-next.ensures.in_order)) ∙ c.if-refused.false

pub returns-then-refused-clause-refused : goal.returns-then-refused-clause-refused
returns-then-refused-clause-refused c =
    let same : c.order-order.result ≡ c.args.machine.now.order = c.order-order.ensures.order
    ∙ ap (λ (r : Rule). r.order) c.checked-checked.ensures.rule in
    sym (c.refused.ensures.in_order c.args.machine.now.order
    (subst (λ o. IsOf o c.mul-next.result) same c.mul-next.ensures.in_order)) ∙ c.if-refused.true
