-- The size of a sum, a negative and a product; and in orders four and six, the two coefficients that stay 0.
use Rattle.std.proofs.Common.{◌≡◌, ℕ, ℤ, pos, negsuc, ◌+◌, ◌*◌, ◌≤◌, ◌+ℤ◌, ◌*ℤ◌, neg_ℤ, nat_abs, arith, ap, ap₂, ◌∙◌, sym, subst}
use Rattle.std.proofs.lemmas.Int.{ints, unsigned_abs-mul}
use Rattle.std.proofs.Math.Nat.{mul-le-mul}
use Rattle.theory_ring.specs.Ring.{integers, difference}
use Rattle.cyclo_points.specs.declared.order.Order.{Order}
use Rattle.cyclo_points.specs.declared.order.Order.TheVariants.{Four, Six, Eight, Ten}
use Rattle.cyclo_points.specs.declared.point.Point.{Point}
use Rattle.cyclo_points.specs.Quad.{Quad, add_quad, neg_quad}
use Rattle.cyclo_points.specs.Order.{points_of}
use Rattle.cyclo_points.specs.Point.{quad_of, point_in, IsOf, Within, IsWithin}
use Rattle.cyclo_points.proofs.Identities.{pair_path}

-- each coefficient is at most n in absolute value
pub record IsWithinQuad (n : ℕ) (q : Quad ℤ) : Type 0 where
  pub at_0 : Within n q.a0
  pub at_1 : Within n q.a1
  pub at_2 : Within n q.a2
  pub at_3 : Within n q.a3

pub quad_within : (n : ℕ) (p : Point) → IsWithin n p → IsWithinQuad n (quad_of p)
quad_within n p h = record { at_0 = h.at_0; at_1 = h.at_1; at_2 = h.at_2; at_3 = h.at_3 }

pub within_quad : (n : ℕ) (r : Point) (q : Quad ℤ) → quad_of r ≡ q → IsWithinQuad n q → IsWithin n r
within_quad n r q e h = let g = subst (IsWithinQuad n) (sym e) h in record { at_0 = g.at_0; at_1 = g.at_1; at_2 = g.at_2; at_3 = g.at_3 }

-- ---- sizes of numbers
pub within_sum : (m n : ℕ) (x y : ℤ) → Within m x → Within n y → Within (m + n) (x +ℤ y)
within_sum m n x y f g = record { low = omega (arith, ints); high = omega (arith, ints) }

pub within_negative : (n : ℕ) (x : ℤ) → Within n x → Within n (neg_ℤ x)
within_negative n x f = record { low = omega (arith, ints); high = omega (arith, ints) }

pub within_abs : (n : ℕ) (x : ℤ) → Within n x → nat_abs x ≤ n
within_abs n (pos k) h = let g = h.high in omega (arith, ints)
within_abs n (negsuc k) h = let g = h.low in omega (arith, ints)

pub abs_within : (n : ℕ) (x : ℤ) → nat_abs x ≤ n → Within n x
abs_within n x h = record { low = omega (arith, ints); high = omega (arith, ints) }

pub within_product : (m n : ℕ) (x y : ℤ) → Within m x → Within n y → Within (m * n) (x *ℤ y)
within_product m n x y f g =
    abs_within (m * n) (x *ℤ y) (omega (arith, unsigned_abs-mul x y, mul-le-mul (within_abs m x f) (within_abs n y g)))

-- ---- sizes at most doubled
pub double_kept : (n : ℕ) (x : ℤ) → Within n x → Within (2 * n) x
double_kept n x f = record { low = omega (arith, ints); high = omega (arith, ints) }

pub double_negative : (n : ℕ) (x : ℤ) → Within n x → Within (2 * n) (neg_ℤ x)
double_negative n x f = record { low = omega (arith, ints); high = omega (arith, ints) }

pub double_sum : (n : ℕ) (x y : ℤ) → Within n x → Within n y → Within (2 * n) (x +ℤ y)
double_sum n x y f g = record { low = omega (arith, ints); high = omega (arith, ints) }

pub double_difference : (n : ℕ) (x y : ℤ) → Within n x → Within n y → Within (2 * n) (x +ℤ neg_ℤ y)
double_difference n x y f g = record { low = omega (arith, ints); high = omega (arith, ints) }

pub double_negative_sum : (n : ℕ) (x y : ℤ) → Within n x → Within n y → Within (2 * n) (neg_ℤ (x +ℤ y))
double_negative_sum n x y f g = record { low = omega (arith, ints); high = omega (arith, ints) }

-- ---- sums and negatives of quadruples, in the terms of points
pub quads_within_sum : (m n : ℕ) (p q : Quad ℤ) → IsWithinQuad m p → IsWithinQuad n q → IsWithinQuad (m + n) (add_quad integers p q)
quads_within_sum m n p q f g = record {
  at_0 = within_sum m n _ _ f.at_0 g.at_0;
  at_1 = within_sum m n _ _ f.at_1 g.at_1;
  at_2 = within_sum m n _ _ f.at_2 g.at_2;
  at_3 = within_sum m n _ _ f.at_3 g.at_3;
}

pub quads_within_negative : (n : ℕ) (p : Quad ℤ) → IsWithinQuad n p → IsWithinQuad n (neg_quad integers p)
quads_within_negative n p f = record {
  at_0 = within_negative n _ f.at_0;
  at_1 = within_negative n _ f.at_1;
  at_2 = within_negative n _ f.at_2;
  at_3 = within_negative n _ f.at_3;
}

pub point_in-add : (o : Order) (r p q : Point) → quad_of r ≡ add_quad integers (quad_of p) (quad_of q)
    → point_in o r ≡ (points_of o).ring.add (point_in o p) (point_in o q)
point_in-add Four r p q e = pair_path _ _ (ap (λ (z : Quad ℤ). z.a0) e) (ap (λ (z : Quad ℤ). z.a1) e)
point_in-add Six r p q e = pair_path _ _ (ap (λ (z : Quad ℤ). z.a0) e) (ap (λ (z : Quad ℤ). z.a1) e)
point_in-add Eight r p q e = e
point_in-add Ten r p q e = e

pub point_in-difference : (o : Order) (r p q : Point) → quad_of r ≡ add_quad integers (quad_of p) (neg_quad integers (quad_of q))
    → point_in o r ≡ difference (points_of o).ring (point_in o p) (point_in o q)
point_in-difference Four r p q e = pair_path _ _ (ap (λ (z : Quad ℤ). z.a0) e) (ap (λ (z : Quad ℤ). z.a1) e)
point_in-difference Six r p q e = pair_path _ _ (ap (λ (z : Quad ℤ). z.a0) e) (ap (λ (z : Quad ℤ). z.a1) e)
point_in-difference Eight r p q e = e
point_in-difference Ten r p q e = e

pub point_in-neg : (o : Order) (r p : Point) → quad_of r ≡ neg_quad integers (quad_of p) → point_in o r ≡ (points_of o).ring.neg (point_in o p)
point_in-neg Four r p e = pair_path _ _ (ap (λ (z : Quad ℤ). z.a0) e) (ap (λ (z : Quad ℤ). z.a1) e)
point_in-neg Six r p e = pair_path _ _ (ap (λ (z : Quad ℤ). z.a0) e) (ap (λ (z : Quad ℤ). z.a1) e)
point_in-neg Eight r p e = e
point_in-neg Ten r p e = e

-- ---- the last two coefficients in orders four and six
pub in_order-add : (o : Order) (r p q : Point) → quad_of r ≡ add_quad integers (quad_of p) (quad_of q) → IsOf o p → IsOf o q → IsOf o r
in_order-add Four r p q e f g = (ap (λ (z : Quad ℤ). z.a2) e ∙ ap₂ ◌+ℤ◌ f.0 g.0, ap (λ (z : Quad ℤ). z.a3) e ∙ ap₂ ◌+ℤ◌ f.1 g.1)
in_order-add Six r p q e f g = (ap (λ (z : Quad ℤ). z.a2) e ∙ ap₂ ◌+ℤ◌ f.0 g.0, ap (λ (z : Quad ℤ). z.a3) e ∙ ap₂ ◌+ℤ◌ f.1 g.1)
in_order-add Eight r p q e f g = tt
in_order-add Ten r p q e f g = tt

pub in_order-difference : (o : Order) (r p q : Point)
    → quad_of r ≡ add_quad integers (quad_of p) (neg_quad integers (quad_of q)) → IsOf o p → IsOf o q
    → IsOf o r
in_order-difference Four r p q e f g =
    (ap (λ (z : Quad ℤ). z.a2) e ∙ ap₂ (λ x y. x +ℤ neg_ℤ y) f.0 g.0, ap (λ (z : Quad ℤ). z.a3) e ∙ ap₂ (λ x y. x +ℤ neg_ℤ y) f.1 g.1)
in_order-difference Six r p q e f g =
    (ap (λ (z : Quad ℤ). z.a2) e ∙ ap₂ (λ x y. x +ℤ neg_ℤ y) f.0 g.0, ap (λ (z : Quad ℤ). z.a3) e ∙ ap₂ (λ x y. x +ℤ neg_ℤ y) f.1 g.1)
in_order-difference Eight r p q e f g = tt
in_order-difference Ten r p q e f g = tt

pub in_order-neg : (o : Order) (r p : Point) → quad_of r ≡ neg_quad integers (quad_of p) → IsOf o p → IsOf o r
in_order-neg Four r p e f = (ap (λ (z : Quad ℤ). z.a2) e ∙ ap neg_ℤ f.0, ap (λ (z : Quad ℤ). z.a3) e ∙ ap neg_ℤ f.1)
in_order-neg Six r p e f = (ap (λ (z : Quad ℤ). z.a2) e ∙ ap neg_ℤ f.0, ap (λ (z : Quad ℤ). z.a3) e ∙ ap neg_ℤ f.1)
in_order-neg Eight r p e f = tt
in_order-neg Ten r p e f = tt
