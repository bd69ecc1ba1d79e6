-- The numbers of coordinates by their parts: sums, differences, signs, and what code of 128 bits computes from parts.
use mir.Syntax.{Width}
use Rattle.std.specs.Int.{w128}
use Rattle.std.specs.declared.cmp.Ordering.{Ordering}
use Rattle.std.proofs.Common.{◌≡◌, ◌⊎◌, inl, inr, ℤ, ◌^◌, ◌+ℤ◌, ◌-ℤ◌, neg_ℤ, to_z, of_z, refl, sym, subst, arith}
use Rattle.std.proofs.lemmas.Int.{ints}
use Rattle.theory_ring.specs.Ring.{difference}
use Rattle.cyclo_points.specs.declared.order.Order.{Order}
use Rattle.cyclo_points.specs.declared.order.Order.TheVariants.{Four, Six, Eight, Ten}
use Rattle.cyclo_points.specs.Order.{points_of}
use Rattle.cyclo_points.specs.Point.{Within}
use Rattle.cyclo_points.specs.Real.{number}

abbrev pub sign_at : Order → ℤ → ℤ → Ordering
sign_at o a b = (points_of o).real.sign (number o a b)

pub number-add : (o : Order) (a b c d : ℤ) → number o (a +ℤ c) (b +ℤ d) ≡ (points_of o).real.ops.add (number o a b) (number o c d)
number-add Four a b c d = refl
number-add Six a b c d = refl
number-add Eight a b c d = refl
number-add Ten a b c d = refl

pub number-difference : (o : Order) (a b c d : ℤ)
    → number o (a +ℤ neg_ℤ c) (b +ℤ neg_ℤ d) ≡ difference (points_of o).real.ops (number o a b) (number o c d)
number-difference Four a b c d = refl
number-difference Six a b c d = refl
number-difference Eight a b c d = refl
number-difference Ten a b c d = refl

-- what holds in orders four and six holds in an order that is one of them
pub in_either : (A : Order → Type 0) (o : Order) → (o ≡ Four) ⊎ (o ≡ Six) → A Four → A Six → A o
in_either A o (inl e) f g = subst A (sym e) f
in_either A o (inr e) f g = subst A (sym e) g

-- a number as code of a width reads it
abbrev pub reading : Width → ℤ → ℤ
reading w x = to_z w (of_z w x)

pub wide_sum-is : (x y : ℤ) → Within (2 ^ 100) x → Within (2 ^ 100) y → reading w128 (reading w128 x +ℤ reading w128 y) ≡ x +ℤ y
wide_sum-is x y f g = omega (arith, ints)

pub wide_difference-is : (x y : ℤ) → Within (2 ^ 100) x → Within (2 ^ 100) y → reading w128 (reading w128 x -ℤ reading w128 y) ≡ x +ℤ neg_ℤ y
wide_difference-is x y f g = omega (arith, ints)
