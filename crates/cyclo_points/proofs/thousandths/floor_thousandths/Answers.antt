use Rattle.std.specs.Int.{w128}
use Rattle.std.specs.declared.cmp.Ordering.TheVariants.{Greater}
use Rattle.std.proofs.Common.{◌≡◌, ℤ, pos, ◌^◌, ◌+ℤ◌, ◌*ℤ◌, neg_ℤ, sym, ◌∙◌, ap₂, arith}
use Rattle.std.proofs.lemmas.Int.{ints}
use Rattle.cyclo_points.specs.declared.order.Order.{Order}
use Rattle.cyclo_points.specs.Point.{Within}
use Rattle.cyclo_points.specs.Real.{number, real_in}
use Rattle.cyclo_points.specs.Thousandths.{IsFloorThousandths, thousandths}
use Rattle.cyclo_points.proofs.Reals.{reading, sign_at}
use Rattle.cyclo_points.proofs.Floors.{above-by_parts, by_parts-above, one_floor}
use Rattle.cyclo_points.proofs.Thetas.{thousandths-is_floor}
use Rattle.cyclo_points.proofs.thousandths.floor_thousandths.Goals as goal

-- x is the floor of s θ, where s is 1000 b, and y is 1000 a more
floor-by_parts : (o : Order) (a b s x y : ℤ) → s ≡ pos 1000 *ℤ b → y ≡ pos 1000 *ℤ a +ℤ x
    → (sign_at o x (neg_ℤ s) ≡ Greater → ⊥) → sign_at o (x +ℤ pos 1) (neg_ℤ s) ≡ Greater → IsFloorThousandths o (number o a b) y
floor-by_parts o a b s x y e f at_most below_next = record {
  at_most = λ h. at_most (ap₂ (λ u v. sign_at o u (neg_ℤ v)) (rest a x y f) e ∙ by_parts-above o y a b h);
  below_next = above-by_parts o (y +ℤ pos 1) a b (ap₂ (λ u v. sign_at o u (neg_ℤ v)) (next a x y f) (sym e) ∙ below_next);
}
  where
    rest : (a x y : ℤ) → y ≡ pos 1000 *ℤ a +ℤ x → x ≡ y +ℤ neg_ℤ (pos 1000 *ℤ a)
    rest a x y f = omega (arith, ints)

    next : (a x y : ℤ) → y ≡ pos 1000 *ℤ a +ℤ x → (y +ℤ pos 1) +ℤ neg_ℤ (pos 1000 *ℤ a) ≡ x +ℤ pos 1
    next a x y f = omega (arith, ints)

read_thousand : (b : ℤ) → Within (2 ^ 30) b → pos 1000 *ℤ reading w128 b ≡ pos 1000 *ℤ b
read_thousand b h = omega (arith, ints)

read_sum : (a x : ℤ) → Within (2 ^ 30) a → Within (2 ^ 42) x
    → reading w128 (reading w128 (pos 1000 *ℤ reading w128 a) +ℤ reading w128 x) ≡ pos 1000 *ℤ a +ℤ x
read_sum a x h k = omega (arith, ints)

pub returns-clause-floor : goal.returns-clause-floor
returns-clause-floor c =
    let r = c.args.r.now in
    let i = c.requires.r_within in
    let x = c.thousandfold_multiple in
    floor-by_parts c.args.order r.a r.b _ x.result _ (read_thousand r.b i.at_b)
    (read_sum r.a x.result i.at_a x.ensures.bounded) x.ensures.at_most x.ensures.below_next

pub returns-clause-only : goal.returns-clause-only
returns-clause-only c = λ f h. one_floor c.args.order (real_in c.args.order c.args.r.now) f _ h (returns-clause-floor c)

pub returns-clause-value : goal.returns-clause-value
returns-clause-value c =
    let order = c.args.order in
    let r = real_in order c.args.r.now in
    one_floor order r _ (thousandths order r) (returns-clause-floor c) (thousandths-is_floor order r)
