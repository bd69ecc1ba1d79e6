-- The whole numbers are a ring.
use Rattle.std.proofs.Common.{◌≡◌, ◌*◌, ℤ, pos, ◌+ℤ◌, ◌*ℤ◌, refl, ap, arith}
use lib.IntN.{+ℤ_assoc, +ℤ_comm, +ℤ_idr, +ℤ_invr, *ℤ_comm}
use borrow.Author.Differences.{up, down, sum_is_lem, product_is}
use Rattle.std.proofs.lemmas.Int.{ints}
use Rattle.theory_ring.specs.Ring.{Laws, integers}

*ℤ-+ℤ : (a b c : ℤ) → a *ℤ (b +ℤ c) ≡ a *ℤ b +ℤ a *ℤ c
*ℤ-+ℤ a b c = omega (arith, ints, ap (λ x. up a * x) (sum_is_lem b c), ap (λ x. down a * x) (sum_is_lem b c))

*ℤ_assoc : (a b c : ℤ) → (a *ℤ b) *ℤ c ≡ a *ℤ (b *ℤ c)
*ℤ_assoc a b c =
    omega (
      arith,
      ints,
      ap (λ x. x * up c) (product_is a b).0,
      ap (λ x. x * down c) (product_is a b).0,
      ap (λ x. x * up c) (product_is a b).1,
      ap (λ x. x * down c) (product_is a b).1,
      ap (λ x. up a * x) (product_is b c).0,
      ap (λ x. down a * x) (product_is b c).0,
      ap (λ x. up a * x) (product_is b c).1,
      ap (λ x. down a * x) (product_is b c).1,
    )

*ℤ_one : (a : ℤ) → a *ℤ pos 1 ≡ a
*ℤ_one a = omega (arith, ints)

pub integers_laws : Laws integers
integers_laws = record {
  add_assoc = +ℤ_assoc;
  add_comm = +ℤ_comm;
  add_zero = +ℤ_idr;
  add_neg = +ℤ_invr;
  mul_assoc = *ℤ_assoc;
  mul_comm = *ℤ_comm;
  mul_one = *ℤ_one;
  mul_add = *ℤ-+ℤ;
  int_add = λ m n. refl;
  int_mul = λ m n. refl;
  int_neg = λ m. refl;
}
