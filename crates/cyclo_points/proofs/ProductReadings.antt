-- What the code's products, and their sums, are as numbers.
use Rattle.std.specs.Int.{w64}
use Rattle.std.proofs.Common.{◌≡◌, ℤ, ◌^◌, ◌+ℤ◌, ◌*ℤ◌, FitsSigned, arith, ap₂, ◌∙◌, sym, subst}
use Rattle.std.proofs.lemmas.Int.{ints, to_z-of_z, fits_signed_mul}
use Rattle.cyclo_points.specs.Point.{Within}
use Rattle.cyclo_points.specs.Product.{product_of}
use Rattle.cyclo_points.proofs.Readings.{machine, machine_sum, machine_difference, machine_negative_sum}
use Rattle.cyclo_points.proofs.Sizes.{within_abs}

product_fits : (x y : ℤ) → Within (2 ^ 32) x → Within (2 ^ 17) y → FitsSigned w64 (x *ℤ y)
product_fits x y h k = fits_signed_mul w64 x y (2 ^ 32) (2 ^ 17) (within_abs (2 ^ 32) x h) (within_abs (2 ^ 17) y k) (omega arith)

pub read_product : (x y : ℤ) → FitsSigned w64 x → FitsSigned w64 y → Within (2 ^ 32) x → Within (2 ^ 17) y → machine (machine x *ℤ machine y) ≡ x *ℤ y
read_product x y f g h k =
    ap₂ (λ u v. machine (u *ℤ v)) (to_z-of_z w64 x f) (to_z-of_z w64 y g)
    ∙ to_z-of_z w64 (x *ℤ y) (product_fits x y h k)

pub machine_product_fits : (x y : ℤ) → FitsSigned w64 x → FitsSigned w64 y → Within (2 ^ 32) x
    → Within (2 ^ 17) y → FitsSigned w64 (machine x *ℤ machine y)
machine_product_fits x y f g h k =
    subst (FitsSigned w64) (sym (ap₂ ◌*ℤ◌ (to_z-of_z w64 x f) (to_z-of_z w64 y g))) (product_fits x y h k)

pub read_four : (r s t u : ℤ) → Within (2 ^ 49) r → Within (2 ^ 49) s → Within (2 ^ 49) t → Within (2 ^ 49) u
    → machine (machine (machine (machine r +ℤ machine s) +ℤ machine t) +ℤ machine u) ≡ r +ℤ s +ℤ t +ℤ u
read_four r s t u f g h k = omega (arith, ints)

read_left : (x : ℤ) → Within (2 ^ 32) x → machine x ≡ x
read_left x h = omega (arith, ints)

read_right : (x : ℤ) → Within (2 ^ 17) x → machine x ≡ x
read_right x h = omega (arith, ints)

pub read_factors : (x y : ℤ) → Within (2 ^ 32) x → Within (2 ^ 17) y → product_of (machine x) (machine y) ≡ product_of x y
read_factors x y f g = ap₂ product_of (read_left x f) (read_right y g)

-- ---- the second factors of order ten
pub sum_within : (x y : ℤ) → Within (2 ^ 16) x → Within (2 ^ 16) y → Within (2 ^ 17) (machine_sum x y)
sum_within x y f g = record { low = omega (arith, ints); high = omega (arith, ints) }

pub difference_within : (x y : ℤ) → Within (2 ^ 16) x → Within (2 ^ 16) y → Within (2 ^ 17) (machine_difference x y)
difference_within x y f g = record { low = omega (arith, ints); high = omega (arith, ints) }

pub negative_sum_within : (x y : ℤ) → Within (2 ^ 16) x → Within (2 ^ 16) y → Within (2 ^ 17) (machine_negative_sum x y)
negative_sum_within x y f g = record { low = omega (arith, ints); high = omega (arith, ints) }
