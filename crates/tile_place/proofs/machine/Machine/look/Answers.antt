use Rattle.std.proofs.Common.{◌≡◌, ◌*◌, ◌^◌, find, sym, ap, ◌∙◌, subst, lit≤, arith}
use Rattle.cyclo_points.specs.Order.{is_refused}
use Rattle.cyclo_points.specs.Point.{point_in, IsOf}
use Rattle.rule_model.specs.declared.rule.Rule.{Rule}
use Rattle.cyclo_points.proofs.Within.{point_wider}
use Rattle.tile_place.proofs.Visits.{visits-refused}
use Rattle.tile_place.proofs.Parts.{part_is, values_of_part, first_is, first_not}
use Rattle.tile_place.proofs.machine.Machine.look.Goals as goal

pub mul-requires-clause-p_within : goal.mul-requires-clause-p_within
mul-requires-clause-p_within c = point_wider (2 ^ 24) (2 ^ 32) _ (lit≤ tt) c.requires.whole.scale_within

pub mul-requires-clause-q_within : goal.mul-requires-clause-q_within
mul-requires-clause-q_within c = point_wider 64 (2 ^ 16) _ (lit≤ tt) c.child-child.ensures.small.within

pub compose-motion-requires-clause-f_within : goal.compose-motion-requires-clause-f_within
compose-motion-requires-clause-f_within c = point_wider (2 ^ 24) (2 ^ 38) _ (lit≤ tt) c.requires.whole.moves.within

pub compose-motion-requires-clause-g_within : goal.compose-motion-requires-clause-g_within
compose-motion-requires-clause-g_within c = point_wider (8 * 2 ^ 24 * 64) (2 ^ 38) _ (lit≤ tt)
    (c.mul.ensures.bounded (2 ^ 24) 64 c.requires.whole.scale_within c.child-child.ensures.small.within)

pub returns-then-refused-clause-visits : goal.returns-then-refused-clause-visits
returns-then-refused-clause-visits c =
    let m = c.args.self.now in
    let same : c.order-order.result ≡ m.order = c.order-order.ensures.order ∙ ap (λ (r : Rule). r.order) c.checked-checked.ensures.rule in
    let part = part_is c.order-order.result c.checked-checked.result.now m c.order-order.ensures.order
    c.checked-checked.ensures.rule c.child-child.result c.args.whole.now.scale.now c.args.whole.now.at.now c.mul.result
    c.compose-motion.result c.args.whole.now.kind c.args.number
    c.child-child.ensures.number c.mul.ensures.product c.compose-motion.ensures.followed_by in
    let in_order = c.compose-motion.ensures.in_order (subst (λ q. IsOf q c.args.whole.now.at.now.shift) (sym same)
    c.requires.whole.moves.in_order) in
    let shift_in_order : IsOf m.order c.compose-motion.result.shift = subst (λ q. IsOf q c.compose-motion.result.shift) same in_order in
    record {
      none_refused = tt;
      limit = record {
        first =
            ap (λ p. find (is_refused m.order) (values_of_part m c.args.whole.now.scale.now p)) (sym part)
            ∙ first_is (is_refused m.order) (point_in m.order c.compose-motion.result.shift) _
            (sym (c.refused.ensures.in_order m.order shift_in_order) ∙ c.if-refused.true);
        in_order = shift_in_order;
      };
    }

pub returns-in_err-holds-clause-visits : goal.returns-in_err-holds-clause-visits
returns-in_err-holds-clause-visits c =
    let m = c.args.self.now in
    let same : c.order-order.result ≡ m.order = c.order-order.ensures.order ∙ ap (λ (r : Rule). r.order) c.checked-checked.ensures.rule in
    let part = part_is c.order-order.result c.checked-checked.result.now m c.order-order.ensures.order
    c.checked-checked.ensures.rule c.child-child.result c.args.whole.now.scale.now c.args.whole.now.at.now c.mul.result
    c.compose-motion.result c.args.whole.now.kind c.args.number
    c.child-child.ensures.number c.mul.ensures.product c.compose-motion.ensures.followed_by in
    let in_order = c.compose-motion.ensures.in_order (subst (λ q. IsOf q c.args.whole.now.at.now.shift) (sym same)
    c.requires.whole.moves.in_order) in
    let shift_in_order : IsOf m.order c.compose-motion.result.shift = subst (λ q. IsOf q c.compose-motion.result.shift) same in_order in
    visits-refused m.order _ c.from_residual.result c.in_err-holds.field-0.0 c.from_residual.ensures.1
    (record {
      first =
          ap (λ p. find (is_refused m.order) (values_of_part m c.args.whole.now.scale.now p)) (sym part)
          ∙ first_not (is_refused m.order) (point_in m.order c.compose-motion.result.shift) _
          (sym (c.refused.ensures.in_order m.order shift_in_order) ∙ c.if-refused.false)
          ∙ c.in_err-holds.ensures.visits.limit.first;
      in_order = c.in_err-holds.ensures.visits.limit.in_order;
    })

pub returns-clause-part : goal.returns-clause-part
returns-clause-part c =
    part_is c.order-order.result c.checked-checked.result.now c.args.self.now c.order-order.ensures.order
    c.checked-checked.ensures.rule c.child-child.result c.args.whole.now.scale.now c.args.whole.now.at.now c.mul.result
    c.compose-motion.result c.args.whole.now.kind c.args.number
    c.child-child.ensures.number c.mul.ensures.product c.compose-motion.ensures.followed_by

pub returns-clause-holds : goal.returns-clause-holds
returns-clause-holds c = c.in_ok-holds.ensures.holds

pub returns-clause-visits : goal.returns-clause-visits
returns-clause-visits c =
    let m = c.args.self.now in
    let same : c.order-order.result ≡ m.order = c.order-order.ensures.order ∙ ap (λ (r : Rule). r.order) c.checked-checked.ensures.rule in
    let part = part_is c.order-order.result c.checked-checked.result.now m c.order-order.ensures.order
    c.checked-checked.ensures.rule c.child-child.result c.args.whole.now.scale.now c.args.whole.now.at.now c.mul.result
    c.compose-motion.result c.args.whole.now.kind c.args.number
    c.child-child.ensures.number c.mul.ensures.product c.compose-motion.ensures.followed_by in
    let in_order = c.compose-motion.ensures.in_order (subst (λ q. IsOf q c.args.whole.now.at.now.shift) (sym same)
    c.requires.whole.moves.in_order) in
    let shift_in_order : IsOf m.order c.compose-motion.result.shift = subst (λ q. IsOf q c.compose-motion.result.shift) same in_order in
    record {
      none_refused =
          ap (λ p. find (is_refused m.order) (values_of_part m c.args.whole.now.scale.now p)) (sym part)
          ∙ first_not (is_refused m.order) (point_in m.order c.compose-motion.result.shift) _
          (sym (c.refused.ensures.in_order m.order shift_in_order) ∙ c.if-refused.false)
          ∙ c.in_ok-holds.ensures.visits.none_refused;
      limit = tt;
    }

pub compose-motion-requires-clause-g_below_order : goal.compose-motion-requires-clause-g_below_order
compose-motion-requires-clause-g_below_order c = grind arith
