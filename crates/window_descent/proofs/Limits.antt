-- Witnesses of sums, and the sides of a window as limits for witnesses.
use Rattle.std.specs.Ordering.{is_gt}
use Rattle.std.proofs.Common.{arith, ℕ, ℤ, ◌≡◌, ◌^◌, ◌<◌, pos, neg_ℤ, ◌+ℤ◌, Bool, true, false, refl, sym, ◌∙◌, ap, subst}
use Rattle.std.proofs.lemmas.Int.{ints}
use Rattle.theory_ring.specs.Ring.{difference}
use Rattle.theory_substitution.specs.Points.{Points, PointLaws}
use Rattle.cyclo_points.specs.declared.order.Order.{Order}
use Rattle.cyclo_points.specs.declared.order.Order.TheVariants.{Four, Six, Eight, Ten}
use Rattle.cyclo_points.specs.Order.{points_of}
use Rattle.cyclo_points.specs.declared.point.Point.{Point}
use Rattle.cyclo_points.specs.Point.{point_in, Within}
use Rattle.cyclo_points.specs.Real.{RealOf, number}
use Rattle.cyclo_points.specs.Witness.{witness_in}
use Rattle.cyclo_points.proofs.OrderLaws.{laws_of}
use Rattle.cyclo_points.proofs.Within.{zero_within}
use Rattle.plane_geom.specs.declared.window.Window.{Window}
use Rattle.plane_geom.specs.Spots.{reals_of, spot_of}
use Rattle.window_descent.specs.declared.bounds.Bounds.{Bounds}
use Rattle.window_descent.specs.Standing.{window_box}
use Rattle.window_descent.specs.Bounds.{witness_of, AreLimits, IsShortNumber, PassesBelow}
use Rattle.window_descent.proofs.Insides.{tells-below, tells-above}

-- ---- witnesses
pub witness-number : (o : Order) (a b : ℤ) → witness_in o a b ≡ witness_of o (number o a b)
witness-number Four a b = refl
witness-number Six a b = refl
witness-number Eight a b = refl
witness-number Ten a b = refl

pub short-number : (o : Order) (n : ℕ) (a b : ℤ) → Within n a → Within n b → IsShortNumber o n (number o a b)
short-number Four n a b f g = f
short-number Six n a b f g = f
short-number Eight n a b f g = (f, g)
short-number Ten n a b f g = (f, g)

pub witness-small : (o : Order) (a b : ℤ) → Within (2 ^ 23) a → Within (2 ^ 23) b → Within (2 ^ 52) (witness_in o a b)
witness-small Four a b f g = record { low = omega (arith, ints); high = omega (arith, ints) }
witness-small Six a b f g = record { low = omega (arith, ints); high = omega (arith, ints) }
witness-small Eight a b f g = record { low = omega (arith, ints); high = omega (arith, ints) }
witness-small Ten a b f g = record { low = omega (arith, ints); high = omega (arith, ints) }

witness-add : (o : Order) (r s : RealOf o) → witness_of o ((points_of o).real.ops.add r s) ≡ witness_of o r +ℤ witness_of o s
witness-add Four r s = refl
witness-add Six r s = refl
witness-add Eight r s = omega (arith, ints)
witness-add Ten r s = omega (arith, ints)

within-add : (a b : ℤ) → Within (2 ^ 23) a → Within (2 ^ 23) b → Within (2 ^ 24) (a +ℤ b)
within-add a b f g = record { low = omega (arith, ints); high = omega (arith, ints) }

short-add : (o : Order) (r s : RealOf o) → IsShortNumber o (2 ^ 23) r → IsShortNumber o (2 ^ 23) s
    → IsShortNumber o (2 ^ 24) ((points_of o).real.ops.add r s)
short-add Four r s f g = within-add r s f g
short-add Six r s f g = within-add r s f g
short-add Eight r s f g = (within-add r.a s.a f.0 g.0, within-add r.b s.b f.1 g.1)
short-add Ten r s f g = (within-add r.a s.a f.0 g.0, within-add r.b s.b f.1 g.1)

-- ---- a short number against a whole one and its negative
abbrev below_test : (o : Order) → ℕ → RealOf o → Bool
below_test o n r = is_gt ((points_of o).real.sign (difference (points_of o).real.ops ((points_of o).real.ops.int (pos n)) r))

abbrev above_test : (o : Order) → ℕ → RealOf o → Bool
above_test o n r = is_gt ((points_of o).real.sign ((points_of o).real.ops.add ((points_of o).real.ops.int (pos n)) r))

module _ (o : Order) (n : ℕ) (few : n < 2 ^ 16) (a b : ℤ) (f : Within (2 ^ 24) a) (g : Within (2 ^ 24) b) where
  below-parts : PassesBelow (below_test o n (number o a b)) (witness_in o a b) (witness_in o (pos n) (pos 0))
  below-parts = record {
    passes = λ h. sym (tells-below o n few a b f g (witness_in o a b) (witness_in o (pos n) (pos 0)) refl refl true (λ e. h) (λ e. absurd (cc e)));
    fails = λ h. sym (tells-below o n few a b f g (witness_in o a b) (witness_in o (pos n) (pos 0)) refl refl false (λ e. absurd (cc e)) (λ e. h));
  }

  above-parts : PassesBelow (above_test o n (number o a b)) (neg_ℤ (witness_in o (pos n) (pos 0))) (witness_in o a b)
  above-parts = record {
    passes = λ h. sym (tells-above o n few a b f g (witness_in o a b) (witness_in o (pos n) (pos 0)) refl refl true (λ e. h) (λ e. absurd (cc e)));
    fails = λ h. sym (tells-above o n few a b f g (witness_in o a b) (witness_in o (pos n) (pos 0)) refl refl false (λ e. absurd (cc e)) (λ e. h));
  }

below-of : (o : Order) (n : ℕ) → n < 2 ^ 16 → (r : RealOf o) → IsShortNumber o (2 ^ 24) r
    → PassesBelow (below_test o n r) (witness_of o r) (witness_in o (pos n) (pos 0))
below-of Four n few r s = below-parts Four n few r (pos 0) s (zero_within (2 ^ 24))
below-of Six n few r s = below-parts Six n few r (pos 0) s (zero_within (2 ^ 24))
below-of Eight n few r s = below-parts Eight n few r.a r.b s.0 s.1
below-of Ten n few r s = below-parts Ten n few r.a r.b s.0 s.1

above-of : (o : Order) (n : ℕ) → n < 2 ^ 16 → (r : RealOf o) → IsShortNumber o (2 ^ 24) r
    → PassesBelow (above_test o n r) (neg_ℤ (witness_in o (pos n) (pos 0))) (witness_of o r)
above-of Four n few r s = above-parts Four n few r (pos 0) s (zero_within (2 ^ 24))
above-of Six n few r s = above-parts Six n few r (pos 0) s (zero_within (2 ^ 24))
above-of Eight n few r s = above-parts Eight n few r.a r.b s.0 s.1
above-of Ten n few r s = above-parts Ten n few r.a r.b s.0 s.1

-- ---- a number that is shifted
shift-limit : (x y z : ℤ) (t : Bool) (limit far : ℤ) → z ≡ x +ℤ far → y ≡ limit +ℤ neg_ℤ far → PassesBelow t z limit → PassesBelow t x y
shift-limit x y z t limit far e f h = record {
  passes = λ l. h.passes (omega (arith, ints));
  fails = λ l. h.fails (omega (arith, ints));
}

shift-least : (x y z : ℤ) (t : Bool) (limit far : ℤ) → z ≡ x +ℤ far → y ≡ limit +ℤ neg_ℤ far → PassesBelow t limit z → PassesBelow t y x
shift-least x y z t limit far e f h = record {
  passes = λ l. h.passes (omega (arith, ints));
  fails = λ l. h.fails (omega (arith, ints));
}

module _ (o : Order) (n : ℕ) (few : n < 2 ^ 16) (far : RealOf o) (far-short : IsShortNumber o (2 ^ 23) far) (x inner : RealOf o)
    (x-short : IsShortNumber o (2 ^ 23) x) (is : inner ≡ (points_of o).real.ops.add x far) where
  sum-witness : witness_of o inner ≡ witness_of o x +ℤ witness_of o far
  sum-witness = ap (witness_of o) is ∙ witness-add o x far

  sum-short : IsShortNumber o (2 ^ 24) inner
  sum-short = subst (IsShortNumber o (2 ^ 24)) (sym is) (short-add o x far x-short far-short)

  pub below-limit : (limit : ℤ) → limit ≡ witness_in o (pos n) (pos 0) +ℤ neg_ℤ (witness_of o far)
      → PassesBelow (below_test o n inner) (witness_of o x) limit
  below-limit limit e =
      shift-limit (witness_of o x) limit (witness_of o inner) (below_test o n inner) (witness_in o (pos n) (pos 0)) (witness_of o far) sum-witness e
      (below-of o n few inner sum-short)

  pub above-limit : (limit : ℤ) → limit ≡ neg_ℤ (witness_in o (pos n) (pos 0)) +ℤ neg_ℤ (witness_of o far)
      → PassesBelow (above_test o n inner) limit (witness_of o x)
  above-limit limit e =
      shift-least (witness_of o x) limit (witness_of o inner) (above_test o n inner)
      (neg_ℤ (witness_in o (pos n) (pos 0))) (witness_of o far) sum-witness e
      (above-of o n few inner sum-short)

-- ---- the coordinates of a point that is shifted, relative to a centre
module _ (P : Points) (W : PointLaws P) (z s c : P.ring.carrier) where
  pub x-shifted : difference P.real.ops (P.x (P.ring.add z s)) (P.x c) ≡ P.real.ops.add (P.x z) (difference P.real.ops (P.x s) (P.x c))
  x-shifted = ap (λ r. P.real.ops.add r (P.real.ops.neg (P.x c))) (W.x-add z s) ∙ W.of_real.add_assoc (P.x z) (P.x s) (P.real.ops.neg (P.x c))

  pub y-shifted : difference P.real.ops (P.y (P.ring.add z s)) (P.y c) ≡ P.real.ops.add (P.y z) (difference P.real.ops (P.y s) (P.y c))
  y-shifted = ap (λ r. P.real.ops.add r (P.real.ops.neg (P.y c))) (W.y-add z s) ∙ W.of_real.add_assoc (P.y z) (P.y s) (P.real.ops.neg (P.y c))

-- ---- the sides of a window
module _ (o : Order) (w : Window) (few_w : w.w < 2 ^ 16) (few_h : w.h < 2 ^ 16) (shift : Point) (across along : RealOf o)
    (across-is : across ≡ difference (reals_of o).ops (spot_of o shift).x (window_box o w).centre.x)
    (along-is : along ≡ difference (reals_of o).ops (spot_of o shift).y (window_box o w).centre.y)
    (across-short : IsShortNumber o (2 ^ 23) across) (along-short : IsShortNumber o (2 ^ 23) along) (b : Bounds)
    (right : b.right ≡ witness_in o (pos w.w) (pos 0) +ℤ neg_ℤ (witness_of o across))
    (left : b.left ≡ neg_ℤ (witness_in o (pos w.w) (pos 0)) +ℤ neg_ℤ (witness_of o across))
    (upper : b.upper ≡ witness_in o (pos w.h) (pos 0) +ℤ neg_ℤ (witness_of o along))
    (lower : b.lower ≡ neg_ℤ (witness_in o (pos w.h) (pos 0)) +ℤ neg_ℤ (witness_of o along)) where
  abbrev P : Points
  P = points_of o

  abbrev far_x : RealOf o
  far_x = difference P.real.ops (P.x (point_in o shift)) (P.x (point_in o w.centre))

  abbrev far_y : RealOf o
  far_y = difference P.real.ops (P.y (point_in o shift)) (P.y (point_in o w.centre))

  pub limits-are : AreLimits o w shift b
  limits-are = record {
    right = λ z short. below-limit o w.w few_w far_x (subst (IsShortNumber o (2 ^ 23)) across-is across-short) (P.x z) _ short
        (x-shifted P (laws_of o) z (point_in o shift) (point_in o w.centre)) b.right
        (right ∙ ap (λ r. witness_in o (pos w.w) (pos 0) +ℤ neg_ℤ (witness_of o r)) across-is);
    left = λ z short. above-limit o w.w few_w far_x (subst (IsShortNumber o (2 ^ 23)) across-is across-short) (P.x z) _ short
        (x-shifted P (laws_of o) z (point_in o shift) (point_in o w.centre)) b.left
        (left ∙ ap (λ r. neg_ℤ (witness_in o (pos w.w) (pos 0)) +ℤ neg_ℤ (witness_of o r)) across-is);
    upper = λ z short. below-limit o w.h few_h far_y (subst (IsShortNumber o (2 ^ 23)) along-is along-short) (P.y z) _ short
        (y-shifted P (laws_of o) z (point_in o shift) (point_in o w.centre)) b.upper
        (upper ∙ ap (λ r. witness_in o (pos w.h) (pos 0) +ℤ neg_ℤ (witness_of o r)) along-is);
    lower = λ z short. above-limit o w.h few_h far_y (subst (IsShortNumber o (2 ^ 23)) along-is along-short) (P.y z) _ short
        (y-shifted P (laws_of o) z (point_in o shift) (point_in o w.centre)) b.lower
        (lower ∙ ap (λ r. neg_ℤ (witness_in o (pos w.h) (pos 0)) +ℤ neg_ℤ (witness_of o r)) along-is);
  }
