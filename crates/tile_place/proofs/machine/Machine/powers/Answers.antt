use Rattle.std.proofs.Common.{◌≡◌, ◌+◌, ◌-◌, ◌++◌, ◌^◌, All, [], ◌∷◌, length, map, find, None, Some, sym, ap, ◌∙◌, subst, arith, lit≤, rules}
use Rattle.std.proofs.lemmas.List.{append-nil}
use Rattle.std.proofs.lemmas.List.Elements.{All-nil, All-push}
use Rattle.theory_frames.specs.Looked.{powers_from}
use Rattle.cyclo_points.specs.Order.{points_of, is_refused}
use Rattle.cyclo_points.specs.Point.{point_in, IsWithin}
use Rattle.cyclo_points.proofs.Within.{point_wider}
use Rattle.tile_place.proofs.Parts.{first_is, first_not}
use Rattle.tile_place.proofs.FactorPowers.{one, one-within, powers-next, powers-start, one-is, one-unrefused, seen-next, next-power, of_factor}
use Rattle.tile_place.proofs.machine.Machine.powers.Goals as goal

pub loop-i-init : goal.loop-i-init
loop-i-init c =
    let o = c.order-order.result in
    let f = point_in o c.factor-factor.result in
    let items = c.push.ensures.items ∙ ap (λ xs. xs ++ one ∷ []) c.new-powers.ensures in
    record {
      last = one-is o;
      seen = ap (λ xs. map (point_in o) xs ++ powers_from (points_of o) f (0 + 1) (c.args.depth - 0)) items
          ∙ ap (λ z. z ∷ powers_from (points_of o) f (0 + 1) (c.args.depth - 0)) (one-is o)
          ∙ sym (powers-start (points_of o) f c.args.depth);
      first = sym (ap (find (is_refused o)) (powers-start (points_of o) f c.args.depth) ∙ first_not (is_refused o) _ _ (one-unrefused o));
      within = subst (All (IsWithin (2 ^ 24))) (sym items)
          (All-push (IsWithin (2 ^ 24)) [] one (All-nil (IsWithin (2 ^ 24))) (one-within (2 ^ 24) (lit≤ tt)));
      small = one-within (2 ^ 24) (lit≤ tt);
      count = ap length items;
    }

pub mul-power-requires-clause-q_within : goal.mul-power-requires-clause-q_within
mul-power-requires-clause-q_within c = point_wider 64 (2 ^ 16) _ (lit≤ tt) c.factor-factor.ensures.small.within

pub returns-then-refused-clause-limit : goal.returns-then-refused-clause-limit
returns-then-refused-clause-limit c =
    let o = c.order-order.result in
    let f = point_in o c.factor-factor.result in
    let last = next-power o f (point_in o c.loop-i.power) (point_in o c.mul-power.result) c.loop-i.i
    c.points_law.ensures.of_ring.mul_comm c.mul-power.ensures.product c.loop-i.invariant.last in
    of_factor o c.checked-checked.result.now c.args.self.now c.factor-factor.result (c.args.depth + 1)
    (λ q xs. find (is_refused q) xs ≡ Some (point_in q c.mul-power.result))
    c.order-order.ensures.order c.checked-checked.ensures.rule c.factor-factor.ensures.factor
    (sym c.loop-i.invariant.first ∙ ap (find (is_refused o))
    (powers-next (points_of o) f c.loop-i.i c.args.depth c.loop-i-test.true
    ∙ ap (λ z. z ∷ powers_from (points_of o) f ((c.loop-i.i + 1) + 1) (c.args.depth - (c.loop-i.i + 1)))
    (sym last))
    ∙ first_is (is_refused o) (point_in o c.mul-power.result) _ (sym (c.refused.ensures.in_order o c.mul-power.ensures.in_order) ∙ c.if-refused.true))

pub loop-i-preserved : goal.loop-i-preserved
loop-i-preserved c =
    let o = c.order-order.result in
    let f = point_in o c.factor-factor.result in
    let last = next-power o f (point_in o c.loop-i.power) (point_in o c.mul-power.result) c.loop-i.i
    c.points_law.ensures.of_ring.mul_comm c.mul-power.ensures.product c.loop-i.invariant.last in
    let small : IsWithin (2 ^ 24) c.mul-power.result = c.refused.ensures.within c.if-refused.false in
    record {
      last = last;
      seen = ap (λ xs. map (point_in o) xs ++ powers_from (points_of o) f ((c.loop-i.i + 1) + 1)
          (c.args.depth - (c.loop-i.i + 1))) c.push-in-loop-i.ensures.items
          ∙ seen-next o f c.loop-i.powers.items c.mul-power.result c.loop-i.i c.args.depth c.loop-i-test.true last ∙ c.loop-i.invariant.seen;
      first =
          sym (ap (find (is_refused o)) (powers-next (points_of o) f c.loop-i.i c.args.depth
          c.loop-i-test.true ∙ ap (λ z. z ∷ powers_from (points_of o) f ((c.loop-i.i + 1) + 1)
          (c.args.depth - (c.loop-i.i + 1))) (sym last))
          ∙ first_not (is_refused o) (point_in o c.mul-power.result) _
          (sym (c.refused.ensures.in_order o c.mul-power.ensures.in_order) ∙ c.if-refused.false))
          ∙ c.loop-i.invariant.first;
      within = subst (All (IsWithin (2 ^ 24))) (sym c.push-in-loop-i.ensures.items)
          (All-push (IsWithin (2 ^ 24)) c.loop-i.powers.items c.mul-power.result c.loop-i.invariant.within
          small);
      small = small;
      count = c.push-in-loop-i.ensures.len ∙ ap (λ n. n + 1) c.loop-i.invariant.count;
    }

pub returns-clause-powers : goal.returns-clause-powers
returns-clause-powers c =
    let o = c.order-order.result in
    let none : c.args.depth - c.loop-i.i ≡ 0 = omega arith in
    of_factor o c.checked-checked.result.now c.args.self.now c.factor-factor.result (c.args.depth + 1)
    (λ q xs. map (point_in q) c.loop-i.powers.items ≡ xs)
    c.order-order.ensures.order c.checked-checked.ensures.rule c.factor-factor.ensures.factor
    (sym (append-nil (map (point_in o) c.loop-i.powers.items))
    ∙ ap (λ n. map (point_in o) c.loop-i.powers.items
    ++ powers_from (points_of o) (point_in o c.factor-factor.result) (c.loop-i.i + 1) n) (sym none)
    ∙ c.loop-i.invariant.seen)

pub returns-clause-none_refused : goal.returns-clause-none_refused
returns-clause-none_refused c =
    let o = c.order-order.result in
    let none : c.args.depth - c.loop-i.i ≡ 0 = omega arith in
    of_factor o c.checked-checked.result.now c.args.self.now c.factor-factor.result (c.args.depth + 1) (λ q xs. find (is_refused q) xs ≡ None)
    c.order-order.ensures.order c.checked-checked.ensures.rule c.factor-factor.ensures.factor
    (sym c.loop-i.invariant.first ∙ ap (λ n. find (is_refused o)
    (powers_from (points_of o) (point_in o c.factor-factor.result) (c.loop-i.i + 1) n)) none)

pub checked-checked-requires : goal.checked-checked-requires
checked-checked-requires c = omega arith

pub mul-power-requires-clause-p_within : goal.mul-power-requires-clause-p_within
mul-power-requires-clause-p_within c = search rules fits 100

pub returns-then-refused-clause-limit_in_order : goal.returns-then-refused-clause-limit_in_order
returns-then-refused-clause-limit_in_order c = grind arith
