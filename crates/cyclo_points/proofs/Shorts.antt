-- Parts as code of 128 bits reads them and casts them to 64 bits, and the bits of two offsets put together.
use Rattle.std.specs.Int.{w64, w128}
use Rattle.std.proofs.Common.{◌≡◌, ℕ, ℤ, ◌^◌, ◌<◌, bit_or, subst, sym, arith}
use Rattle.std.proofs.lemmas.Int.{ints}
use Rattle.std.proofs.lemmas.Nat.{le_or_l, le_or_r}
use Rattle.cyclo_points.specs.Point.{Within}
use Rattle.cyclo_points.proofs.Reals.{reading}

pub read_wide : (x : ℤ) → Within (2 ^ 61) x → reading w128 x ≡ x
read_wide x h = omega (arith, ints)

pub within-of_read : (n : ℕ) (x : ℤ) → Within (2 ^ 61) x → Within n (reading w128 x) → Within n x
within-of_read n x h = subst (Within n) (read_wide x h)

pub read-within : (n : ℕ) (x : ℤ) → Within (2 ^ 61) x → Within n x → Within n (reading w128 x)
read-within n x h = subst (Within n) (sym (read_wide x h))

abbrev pub cast : ℤ → ℤ
cast x = reading w64 (reading w128 x)

pub cast-is : (x : ℤ) → Within (2 ^ 25) x → cast x ≡ x
cast-is x h = omega (arith, ints)

pub first_below : (k m n : ℕ) → bit_or m n < k → m < k
first_below k m n h = let g = le_or_l m n in omega arith

pub second_below : (k m n : ℕ) → bit_or m n < k → n < k
second_below k m n h = let g = le_or_r m n in omega arith
