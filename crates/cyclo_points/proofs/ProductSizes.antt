-- A product's coefficients are at most eight times those of its factors, multiplied.
use Rattle.std.proofs.Common.{◌≡◌, ℕ, ℤ, ◌*◌, ◌-ℤ◌, ◌∙◌, ap, sym, subst, arith}
use Rattle.std.proofs.lemmas.Int.{ints}
use Rattle.theory_ring.specs.Ring.{integers}
use Rattle.theory_ring.specs.Surd.{Pair}
use Rattle.cyclo_points.specs.declared.order.Order.{Order}
use Rattle.cyclo_points.specs.declared.order.Order.TheVariants.{Four, Six, Eight, Ten}
use Rattle.cyclo_points.specs.declared.point.Point.{Point}
use Rattle.cyclo_points.specs.Quad.{Quad}
use Rattle.cyclo_points.specs.Eight.{mul_eight}
use Rattle.cyclo_points.specs.Ten.{mul_ten}
use Rattle.cyclo_points.specs.Order.{points_of}
use Rattle.cyclo_points.specs.Point.{quad_of, point_in, IsOf, Within, IsWithin}
use Rattle.cyclo_points.proofs.Sizes.{IsWithinQuad, quad_within, within_quad, double_kept, double_negative, double_sum, double_negative_sum}
use Rattle.cyclo_points.proofs.Dots.{dot_within, four_0, four_1, six_0, six_1, eight_0, eight_1, eight_2, eight_3, ten_0, ten_1, ten_2, ten_3}
use Rattle.cyclo_points.proofs.Within.{zero_within}

-- r is the product of p and q
abbrev pub IsProduct : Order → Point → Point → Point → Type 0
IsProduct o p q r = point_in o r ≡ (points_of o).ring.mul (point_in o p) (point_in o q)

difference_doubled : (n : ℕ) (x y : ℤ) → Within n x → Within n y → Within (2 * n) (x -ℤ y)
difference_doubled n x y f g = record { low = omega (arith, ints); high = omega (arith, ints) }

module _ (m k : ℕ) (p q : Quad ℤ) (f : IsWithinQuad m p) (g : IsWithinQuad k q) where
  size_eight : IsWithinQuad (8 * m * k) (mul_eight integers p q)
  size_eight = record {
    at_0 = subst (Within (8 * m * k)) (eight_0 p q)
        (dot_within m k p _ _ _ _ f (double_kept k _ g.at_0) (double_negative k _ g.at_3)
        (double_negative k _ g.at_2) (double_negative k _ g.at_1));
    at_1 = subst (Within (8 * m * k)) (eight_1 p q)
        (dot_within m k p _ _ _ _ f (double_kept k _ g.at_1) (double_kept k _ g.at_0)
        (double_negative k _ g.at_3) (double_negative k _ g.at_2));
    at_2 = subst (Within (8 * m * k)) (eight_2 p q)
        (dot_within m k p _ _ _ _ f (double_kept k _ g.at_2) (double_kept k _ g.at_1) (double_kept k _ g.at_0)
        (double_negative k _ g.at_3));
    at_3 = subst (Within (8 * m * k)) (eight_3 p q)
        (dot_within m k p _ _ _ _ f (double_kept k _ g.at_3) (double_kept k _ g.at_2) (double_kept k _ g.at_1)
        (double_kept k _ g.at_0));
  }

  size_ten : IsWithinQuad (8 * m * k) (mul_ten integers p q)
  size_ten = record {
    at_0 = subst (Within (8 * m * k)) (ten_0 p q)
        (dot_within m k p _ _ _ _ f (double_kept k _ g.at_0) (double_negative k _ g.at_3)
        (double_negative_sum k _ _ g.at_2 g.at_3) (double_negative_sum k _ _ g.at_1 g.at_2));
    at_1 = subst (Within (8 * m * k)) (ten_1 p q)
        (dot_within m k p _ _ _ _ f (double_kept k _ g.at_1) (double_sum k _ _ g.at_0 g.at_3)
        (double_kept k _ g.at_2) (difference_doubled k _ _ g.at_1 g.at_3));
    at_2 = subst (Within (8 * m * k)) (ten_2 p q)
        (dot_within m k p _ _ _ _ f (double_kept k _ g.at_2) (difference_doubled k _ _ g.at_1 g.at_3)
        (difference_doubled k _ _ g.at_0 g.at_2) (double_negative k _ g.at_1));
    at_3 = subst (Within (8 * m * k)) (ten_3 p q)
        (dot_within m k p _ _ _ _ f (double_kept k _ g.at_3) (double_sum k _ _ g.at_2 g.at_3)
        (double_sum k _ _ g.at_1 g.at_2) (double_sum k _ _ g.at_0 g.at_1));
  }

pub product_within : (o : Order) (m k : ℕ) (p q r : Point) → IsProduct o p q r → IsOf o r → IsWithin m p → IsWithin k q → IsWithin (8 * m * k) r
product_within Four m k p q r e h f g =
    let pf = quad_within m p f in
    record {
      at_0 = subst (Within (8 * m * k)) (four_0 (quad_of p) (quad_of q) ∙ sym (ap (λ (z : Pair ℤ). z.a) e))
          (dot_within m k (quad_of p) _ _ _ _ pf (double_kept k _ g.at_0) (double_negative k _ g.at_1) (zero_within (2 * k)) (zero_within (2 * k)));
      at_1 = subst (Within (8 * m * k)) (four_1 (quad_of p) (quad_of q) ∙ sym (ap (λ (z : Pair ℤ). z.b) e))
          (dot_within m k (quad_of p) _ _ _ _ pf (double_kept k _ g.at_1) (double_kept k _ g.at_0) (zero_within (2 * k)) (zero_within (2 * k)));
      at_2 = subst (Within (8 * m * k)) (sym h.0) (zero_within (8 * m * k));
      at_3 = subst (Within (8 * m * k)) (sym h.1) (zero_within (8 * m * k));
    }
product_within Six m k p q r e h f g =
    let pf = quad_within m p f in
    record {
      at_0 = subst (Within (8 * m * k)) (six_0 (quad_of p) (quad_of q) ∙ sym (ap (λ (z : Pair ℤ). z.a) e))
          (dot_within m k (quad_of p) _ _ _ _ pf (double_kept k _ g.at_0) (double_negative k _ g.at_1) (zero_within (2 * k)) (zero_within (2 * k)));
      at_1 = subst (Within (8 * m * k)) (six_1 (quad_of p) (quad_of q) ∙ sym (ap (λ (z : Pair ℤ). z.b) e))
          (dot_within m k (quad_of p) _ _ _ _ pf (double_kept k _ g.at_1) (double_sum k _ _ g.at_0 g.at_1)
          (zero_within (2 * k)) (zero_within (2 * k)));
      at_2 = subst (Within (8 * m * k)) (sym h.0) (zero_within (8 * m * k));
      at_3 = subst (Within (8 * m * k)) (sym h.1) (zero_within (8 * m * k));
    }
product_within Eight m k p q r e h f g = within_quad (8 * m * k) r _ e
    (size_eight m k (quad_of p) (quad_of q) (quad_within m p f) (quad_within k q g))
product_within Ten m k p q r e h f g = within_quad (8 * m * k) r _ e (size_ten m k (quad_of p) (quad_of q) (quad_within m p f) (quad_within k q g))
