-- Products of parts, and what they make up in each order.
use mir.Syntax.{Width}
use Rattle.std.specs.Int.{w64, w128}
use Rattle.std.specs.declared.cmp.Ordering.TheVariants.{Greater}
use Rattle.std.proofs.Common.{◌≡◌, ℕ, ℤ, pos, ◌*◌, ◌^◌, ◌+ℤ◌, ◌*ℤ◌, FitsSigned, subst, sym, ap, ap₂, ◌∙◌, arith}
use Rattle.std.proofs.lemmas.Int.{ints, to_z-of_z, fits_signed_mul}
use Rattle.cyclo_points.specs.declared.order.Order.{Order}
use Rattle.cyclo_points.specs.declared.order.Order.TheVariants.{Four, Six, Eight, Ten}
use Rattle.cyclo_points.specs.declared.real.Real.{Real}
use Rattle.cyclo_points.specs.Order.{points_of}
use Rattle.cyclo_points.specs.Point.{Within}
use Rattle.cyclo_points.specs.Product.{product_of}
use Rattle.cyclo_points.specs.Real.{RealOf, number, real_in, IsRealOf, IsRealWithin}
use Rattle.cyclo_points.proofs.OrderLaws.{laws_of}
use Rattle.cyclo_points.proofs.Sizes.{within_abs, within_product}
use Rattle.cyclo_points.proofs.Reals.{reading, sign_at}
use Rattle.cyclo_points.proofs.Within.{zero_within}

module _ (w : Width) where
  pub read_part_product : (x y : ℤ) → FitsSigned w x → FitsSigned w y → FitsSigned w (x *ℤ y) → reading w (reading w x *ℤ reading w y) ≡ x *ℤ y
  read_part_product x y f g h = ap₂ (λ u v. reading w (u *ℤ v)) (to_z-of_z w x f) (to_z-of_z w y g) ∙ to_z-of_z w (x *ℤ y) h

-- ---- 64 bits
pub short_product_fits : (x y : ℤ) → Within (2 ^ 25) x → Within (2 ^ 25) y → FitsSigned w64 (x *ℤ y)
short_product_fits x y f g = fits_signed_mul w64 x y (2 ^ 25) (2 ^ 25) (within_abs _ x f) (within_abs _ y g) (omega arith)

pub read_short : (x : ℤ) → Within (2 ^ 25) x → reading w64 x ≡ x
read_short x h = omega (arith, ints)

pub read_short_product : (x y : ℤ) → Within (2 ^ 25) x → Within (2 ^ 25) y → product_of (reading w64 x) (reading w64 y) ≡ x *ℤ y
unfolding product_of
read_short_product x y f g = ap₂ (λ u v. u *ℤ v) (read_short x f) (read_short y g)

pub short_kept : (x : ℤ) → Within (2 ^ 50) x → reading w64 x ≡ x
short_kept x f = omega (arith, ints)

pub short_double_sum : (x y : ℤ) → Within (2 ^ 50) x → Within (2 ^ 50) y
    → reading w64 (reading w64 x +ℤ reading w64 (pos 2 *ℤ reading w64 y)) ≡ x +ℤ pos 2 *ℤ y
short_double_sum x y f g = omega (arith, ints)

pub short_sum : (x y : ℤ) → Within (2 ^ 50) x → Within (2 ^ 50) y → reading w64 (reading w64 x +ℤ reading w64 y) ≡ x +ℤ y
short_sum x y f g = omega (arith, ints)

pub short_three : (x y z : ℤ) → Within (2 ^ 50) x → Within (2 ^ 50) y → Within (2 ^ 50) z
    → reading w64 (reading w64 (reading w64 x +ℤ reading w64 y) +ℤ reading w64 z) ≡ x +ℤ y +ℤ z
short_three x y z f g h = omega (arith, ints)

-- ---- 128 bits
pub wide_product_fits : (x y : ℤ) → Within (2 ^ 60) x → Within (2 ^ 60) y → FitsSigned w128 (x *ℤ y)
wide_product_fits x y f g = fits_signed_mul w128 x y (2 ^ 60) (2 ^ 60) (within_abs _ x f) (within_abs _ y g) (omega arith)

read_wide : (x : ℤ) → Within (2 ^ 60) x → reading w128 x ≡ x
read_wide x h = omega (arith, ints)

pub read_wide_product : (x y : ℤ) → Within (2 ^ 60) x → Within (2 ^ 60) y → product_of (reading w128 x) (reading w128 y) ≡ x *ℤ y
unfolding product_of
read_wide_product x y f g = ap₂ (λ u v. u *ℤ v) (read_wide x f) (read_wide y g)

pub wide_kept : (x : ℤ) → Within (2 ^ 120) x → reading w128 x ≡ x
wide_kept x f = omega (arith, ints)

pub wide_double_sum : (x y : ℤ) → Within (2 ^ 120) x → Within (2 ^ 120) y
    → reading w128 (reading w128 x +ℤ reading w128 (pos 2 *ℤ reading w128 y)) ≡ x +ℤ pos 2 *ℤ y
wide_double_sum x y f g = omega (arith, ints)

pub wide_sum : (x y : ℤ) → Within (2 ^ 120) x → Within (2 ^ 120) y → reading w128 (reading w128 x +ℤ reading w128 y) ≡ x +ℤ y
wide_sum x y f g = omega (arith, ints)

pub wide_three : (x y z : ℤ) → Within (2 ^ 120) x → Within (2 ^ 120) y → Within (2 ^ 120) z
    → reading w128 (reading w128 (reading w128 x +ℤ reading w128 y) +ℤ reading w128 z) ≡ x +ℤ y +ℤ z
wide_three x y z f g h = omega (arith, ints)

-- ---- the product of a + bθ and c + dθ
abbrev pub multiplied : (o : Order) → ℤ → ℤ → ℤ → ℤ → RealOf o
multiplied o a b c d = (points_of o).real.ops.mul (number o a b) (number o c d)

pub multiplied_four : (a b c d x : ℤ) → x ≡ a *ℤ c → number Four x (pos 0) ≡ multiplied Four a b c d
multiplied_four a b c d x e = e

pub multiplied_six : (a b c d x : ℤ) → x ≡ a *ℤ c → number Six x (pos 0) ≡ multiplied Six a b c d
multiplied_six a b c d x e = e

pub multiplied_eight : (a b c d x y : ℤ) → x ≡ a *ℤ c +ℤ pos 2 *ℤ (b *ℤ d) → y ≡ a *ℤ d +ℤ b *ℤ c → number Eight x y ≡ multiplied Eight a b c d
multiplied_eight a b c d x y e f = ap₂ (number Eight) e f

pub multiplied_ten : (a b c d x y : ℤ) → x ≡ a *ℤ c +ℤ b *ℤ d → y ≡ a *ℤ d +ℤ b *ℤ c +ℤ b *ℤ d → number Ten x y ≡ multiplied Ten a b c d
multiplied_ten a b c d x y e f = ap₂ (number Ten) e f

-- ---- its sign and size
abbrev pub IsMultiplied : Order → Real → Real → Real → Type 0
IsMultiplied o r s t = real_in o t ≡ (points_of o).real.ops.mul (real_in o r) (real_in o s)

pub multiplied_positive : (o : Order) (r s t : Real) → IsMultiplied o r s t
    → sign_at o r.a r.b ≡ Greater → sign_at o s.a s.b ≡ Greater → sign_at o t.a t.b ≡ Greater
multiplied_positive o r s t e p q = subst (λ x. (points_of o).real.sign x ≡ Greater) (sym e)
    ((laws_of o).of_order.sign-mul (real_in o r) (real_in o s) p q)

three_sum : (n : ℕ) (x y z : ℤ) → Within n x → Within n y → Within n z → Within (3 * n) (x +ℤ y +ℤ z)
three_sum n x y z f g h = record { low = omega (arith, ints); high = omega (arith, ints) }

double_added : (n : ℕ) (x y : ℤ) → Within n x → Within n y → Within (3 * n) (x +ℤ pos 2 *ℤ y)
double_added n x y f g = record { low = omega (arith, ints); high = omega (arith, ints) }

two_sum : (n : ℕ) (x y : ℤ) → Within n x → Within n y → Within (3 * n) (x +ℤ y)
two_sum n x y f g = record { low = omega (arith, ints); high = omega (arith, ints) }

one_only : (n : ℕ) (x : ℤ) → Within n x → Within (3 * n) x
one_only n x f = record { low = omega (arith, ints); high = omega (arith, ints) }

grouped : (m k : ℕ) → 3 * (m * k) ≡ 3 * m * k
grouped m k = omega arith

pub multiplied_within : (o : Order) (m k : ℕ) (r s t : Real) → IsMultiplied o r s t → IsRealOf o t
    → IsRealWithin m r → IsRealWithin k s → IsRealWithin (3 * m * k) t
multiplied_within o m k r s t e i f g = subst (λ n. IsRealWithin n t) (grouped m k) (at_order o e i)
  where
    aa : Within (m * k) (r.a *ℤ s.a)
    aa = within_product m k r.a s.a f.at_a g.at_a

    bb : Within (m * k) (r.b *ℤ s.b)
    bb = within_product m k r.b s.b f.at_b g.at_b

    ab : Within (m * k) (r.a *ℤ s.b)
    ab = within_product m k r.a s.b f.at_a g.at_b

    ba : Within (m * k) (r.b *ℤ s.a)
    ba = within_product m k r.b s.a f.at_b g.at_a

    at_order : (o : Order) → IsMultiplied o r s t → IsRealOf o t → IsRealWithin (3 * (m * k)) t
    at_order Four e i = record {
      at_a = subst (Within (3 * (m * k))) (sym e) (one_only (m * k) _ aa);
      at_b = subst (Within (3 * (m * k))) (sym i) (zero_within (3 * (m * k)));
    }
    at_order Six e i = record {
      at_a = subst (Within (3 * (m * k))) (sym e) (one_only (m * k) _ aa);
      at_b = subst (Within (3 * (m * k))) (sym i) (zero_within (3 * (m * k)));
    }
    at_order Eight e i = record {
      at_a = subst (Within (3 * (m * k))) (sym (ap (λ (x : RealOf Eight). x.a) e)) (double_added (m * k) _ _ aa bb);
      at_b = subst (Within (3 * (m * k))) (sym (ap (λ (x : RealOf Eight). x.b) e)) (two_sum (m * k) _ _ ab ba);
    }
    at_order Ten e i = record {
      at_a = subst (Within (3 * (m * k))) (sym (ap (λ (x : RealOf Ten). x.a) e)) (two_sum (m * k) _ _ aa bb);
      at_b = subst (Within (3 * (m * k))) (sym (ap (λ (x : RealOf Ten). x.b) e)) (three_sum (m * k) _ _ _ ab ba bb);
    }
