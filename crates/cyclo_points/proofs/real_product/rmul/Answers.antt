use Rattle.std.specs.Int.{w128}
use Rattle.std.specs.declared.cmp.Ordering.TheVariants.{Greater}
use Rattle.std.proofs.Common.{◌≡◌, ◌*◌, ◌^◌, ℤ, arith, subst, sym, ◌∙◌, ap₂}
use Rattle.std.proofs.lemmas.Grind.{common_steps}
use Rattle.std.proofs.lemmas.Int.{ints}
use Rattle.cyclo_points.specs.declared.order.Order.{Order}
use Rattle.cyclo_points.specs.declared.real.Real.{Real}
use Rattle.cyclo_points.specs.Order.{points_of}
use Rattle.cyclo_points.specs.Point.{Within}
use Rattle.cyclo_points.specs.Real.{number, real_in, IsRealOf, IsRealWithin}
use Rattle.cyclo_points.proofs.Reals.{reading}
use Rattle.cyclo_points.proofs.RealProducts.{IsMultiplied, multiplied_positive, multiplied_within}
use Rattle.cyclo_points.proofs.Shorts.{cast-is}
use Rattle.cyclo_points.proofs.real_product.rmul.Goals as goal
use Rattle.cyclo_points.proofs.real_product.rmul.Goals.{After-short_product}

multiplied : (c : After-short_product) → IsMultiplied c.args.order c.args.r.now c.args.s.now c.short_product.result
multiplied c =
    let o = c.args.order in
    let r = c.are_short.ensures.first_short c.if-are_short.true in
    let s = c.are_short.ensures.second_short c.if-are_short.true in
    c.short_product.ensures.product
    ∙ ap₂ (points_of o).real.ops.mul
    (ap₂ (number o) (cast-is c.args.r.now.a r.at_a) (cast-is c.args.r.now.b r.at_b))
    (ap₂ (number o) (cast-is c.args.s.now.a s.at_a) (cast-is c.args.s.now.b s.at_b))

pub returns-then-are_short-clause-product : goal.returns-then-are_short-clause-product
returns-then-are_short-clause-product c = multiplied c

pub returns-then-are_short-clause-positive : goal.returns-then-are_short-clause-positive
returns-then-are_short-clause-positive c = multiplied_positive c.args.order c.args.r.now c.args.s.now c.short_product.result (multiplied c)

pub returns-then-are_short-clause-bounded : goal.returns-then-are_short-clause-bounded
returns-then-are_short-clause-bounded c =
    λ m k. multiplied_within c.args.order m k c.args.r.now c.args.s.now c.short_product.result (multiplied c) c.short_product.ensures.in_order

-- the code reads the parts of the wide product once more
kept : (t : Real) → IsRealWithin (3 * 2 ^ 60 * 2 ^ 60) t → (record { a = reading w128 t.a; b = reading w128 t.b }) ≡ t
kept t h = ap₂ (λ a b. record { a = a; b = b }) (part t.a h.at_a) (part t.b h.at_b)
  where
    part : (x : ℤ) → Within (3 * 2 ^ 60 * 2 ^ 60) x → reading w128 x ≡ x
    part x h = omega (arith, ints)

kept_product : (o : Order) (r s t : Real) → IsMultiplied o r s t → IsRealOf o t → IsRealWithin (2 ^ 60) r → IsRealWithin (2 ^ 60) s
    → (record { a = reading w128 t.a; b = reading w128 t.b }) ≡ t
kept_product o r s t e i f g = kept t (multiplied_within o (2 ^ 60) (2 ^ 60) r s t e i f g)

pub returns-else-are_short-clause-positive : goal.returns-else-are_short-clause-positive
returns-else-are_short-clause-positive c =
    let o = c.args.order in
    let p = c.wide_product-product in
    let e = kept_product o c.args.r.now c.args.s.now p.result p.ensures.product p.ensures.in_order c.requires.r_within c.requires.s_within in
    λ f g. subst (λ t. (points_of o).real.sign (real_in o t) ≡ Greater) (sym e)
    (multiplied_positive o c.args.r.now c.args.s.now p.result p.ensures.product f g)

pub returns-else-are_short-clause-bounded : goal.returns-else-are_short-clause-bounded
returns-else-are_short-clause-bounded c =
    let o = c.args.order in
    let p = c.wide_product-product in
    let e = kept_product o c.args.r.now c.args.s.now p.result p.ensures.product p.ensures.in_order c.requires.r_within c.requires.s_within in
    λ m k f g. subst (IsRealWithin (3 * m * k)) (sym e)
    (multiplied_within o m k c.args.r.now c.args.s.now p.result p.ensures.product p.ensures.in_order f g)

pub returns-then-are_short-clause-in_order : goal.returns-then-are_short-clause-in_order
returns-then-are_short-clause-in_order c = grind (arith, common_steps)

pub returns-else-are_short-clause-product : goal.returns-else-are_short-clause-product
returns-else-are_short-clause-product c = grind (arith, common_steps)

pub returns-else-are_short-clause-in_order : goal.returns-else-are_short-clause-in_order
returns-else-are_short-clause-in_order c = grind (arith, common_steps)
