-- What the code's squares are, and that they fit, in 128 bits.
use Rattle.std.specs.Int.{w128}
use Rattle.std.proofs.Common.{◌≡◌, ◌<◌, ◌^◌, ℕ, ◌*◌, ℤ, pos, FitsSigned, ◌+ℤ◌, ◌*ℤ◌, unsigned_abs, sym, subst, ap, ap₂, ◌∙◌, arith}
use Rattle.std.proofs.lemmas.Int.{ints, to_z-of_z, fits_signed_mul}
use Rattle.cyclo_points.specs.Point.{Within}
use Rattle.cyclo_points.specs.Product.{product_of}
use Rattle.cyclo_points.proofs.Sizes.{within_abs, within_product}
use Rattle.cyclo_points.proofs.Reals.{reading}
use Rattle.cyclo_points.proofs.Witnesses.{signed_square}

abs_within : (n : ℕ) (u : ℤ) → Within n u → Within n (pos (unsigned_abs u))
abs_within n u h = let g = within_abs n u h in record { low = omega (arith, ints); high = omega (arith, ints) }

pub square_within : (n : ℕ) (u : ℤ) → Within n u → Within (n * n) (signed_square u)
square_within n u h = within_product n n u (pos (unsigned_abs u)) h (abs_within n u h)

pub product-is_square : (x u : ℤ) → x ≡ u → product_of x (pos (unsigned_abs x)) ≡ signed_square u
unfolding product_of
product-is_square x u e = ap signed_square e

-- x is the code's square of s, which is u
pub squared_within : (n : ℕ) (s u x : ℤ) → s ≡ u → ((k : ℕ) → Within k s → Within (k * k) x) → Within n u → Within (n * n) x
squared_within n s u x e f h = f n (subst (Within n) (sym e) h)

square_fits : (n : ℕ) (u : ℤ) → Within n u → n * n < 2 ^ 127 → FitsSigned w128 (signed_square u)
square_fits n u h k = fits_signed_mul w128 u (pos (unsigned_abs u)) n n (within_abs n u h) (within_abs n _ (abs_within n u h)) k

-- y is the code's |u|
pub read_square : (n : ℕ) (u y : ℤ) → FitsSigned w128 u → FitsSigned w128 y → y ≡ pos (unsigned_abs (reading w128 u)) → Within n u → n * n < 2 ^ 127
    → reading w128 (reading w128 u *ℤ reading w128 y) ≡ signed_square u
read_square n u y f g e h k =
    ap₂ (λ s t. reading w128 (s *ℤ t)) (to_z-of_z w128 u f) (to_z-of_z w128 y g ∙ e ∙ ap (λ s. pos (unsigned_abs s)) (to_z-of_z w128 u f))
    ∙ to_z-of_z w128 (signed_square u) (square_fits n u h k)

-- ---- sums of squares as the code computes them
pub two_squares : (x y : ℤ) → Within (2 ^ 122) x → Within (2 ^ 122) y
    → reading w128 (reading w128 x +ℤ reading w128 (pos 2 *ℤ reading w128 y)) ≡ x +ℤ pos 2 *ℤ y
two_squares x y f g = omega (arith, ints)

pub five_squares : (x y : ℤ) → Within (9 * 2 ^ 122) x → Within (2 ^ 122) y
    → reading w128 (reading w128 x +ℤ reading w128 (pos 5 *ℤ reading w128 y)) ≡ x +ℤ pos 5 *ℤ y
five_squares x y f g = omega (arith, ints)
