-- In the three rings each positive number divides a whole number: its product with its conjugate, or the negative of it.
use Rattle.std.proofs.Common.{◌≡◌, ℕ, zero, suc, ℤ, pos, negsuc, ◌+ℤ◌, ◌*ℤ◌, ◌-ℤ◌, ◌<ℤ◌, neg_ℤ, refl, ap, ap₂, ◌∙◌, arith, Greater}
use Rattle.std.proofs.lemmas.Int.{ints}
use Rattle.theory_ring.specs.Ring.{integers}
use Rattle.theory_ring.specs.Surd.{Pair, root_two, golden}
use Rattle.theory_ring.specs.Sign.{surd_sign, signed_integers, signed_root_two, signed_golden}
use Rattle.theory_ring.specs.Divisor.{DividesWhole}
use Rattle.theory_ring.proofs.Normaliser.{con, neg, solve, ◌⊕◌, ◌⊖◌, ◌⊗◌}
use Rattle.theory_ring.proofs.Integers.{integers_laws}
use Rattle.theory_ring.proofs.Squares.{no_root_two, no_root_five}
use Rattle.theory_ring.proofs.Ordered.{greater_whole, pair_path}

pub integers_divide : DividesWhole signed_integers
integers_divide x h = at_case x (greater_whole x h)
  where
    at_case : (x : ℤ) → pos 0 <ℤ x → (s : ℤ) × (n : ℕ) × (s *ℤ x ≡ pos (suc n))
    at_case (pos zero) g = absurd (omega (arith, ints))
    at_case (pos (suc n)) g = (pos 1, n, omega (arith, ints))
    at_case (negsuc n) g = absurd (omega (arith, ints))

-- (a - b√2)(a + b√2) is a² - 2b²
pub root_two_divide : DividesWhole signed_root_two
root_two_divide x h = at_norm x.a x.b h (x.a *ℤ x.a -ℤ pos 2 *ℤ (x.b *ℤ x.b)) refl
  where
    at_norm : (a b : ℤ) → surd_sign (pos 2) a b ≡ Greater → (m : ℤ) → a *ℤ a -ℤ pos 2 *ℤ (b *ℤ b) ≡ m
        → (s : Pair ℤ) × (n : ℕ) × ((root_two integers).mul s (record { a = a; b = b }) ≡ (root_two integers).int (pos (suc n)))
    at_norm a b g (pos zero) e =
        let z = no_root_two a b (omega (arith, ints)) in
        absurd (cc (g, ap₂ (surd_sign (pos 2)) z.0 z.1))
    at_norm a b g (pos (suc n)) e = (
      record { a = a; b = neg_ℤ b },
      n,
      pair_path _ _
          (solve integers integers_laws 2 (λ a b. (a ⊗ a ⊕ con (pos 2) ⊗ (neg b ⊗ b), a ⊗ a ⊖ con (pos 2) ⊗ (b ⊗ b))) refl a b ∙ e)
          (solve integers integers_laws 2 (λ a b. (a ⊗ b ⊕ neg b ⊗ a, con (pos 0))) refl a b),
    )
    at_norm a b g (negsuc n) e = (
      record { a = neg_ℤ a; b = b },
      n,
      pair_path _ _
          (solve integers integers_laws 2 (λ a b. (neg a ⊗ a ⊕ con (pos 2) ⊗ (b ⊗ b), neg (a ⊗ a ⊖ con (pos 2) ⊗ (b ⊗ b)))) refl a b ∙ ap neg_ℤ e)
          (solve integers integers_laws 2 (λ a b. (neg a ⊗ b ⊕ b ⊗ a, con (pos 0))) refl a b),
    )

-- ((a + b) - bφ)(a + bφ) is a² + ab - b²
pub golden_divide : DividesWhole signed_golden
golden_divide x h = at_norm x.a x.b h (x.a *ℤ x.a +ℤ x.a *ℤ x.b -ℤ x.b *ℤ x.b) refl
  where
    square : (a b : ℤ) → (pos 2 *ℤ a +ℤ b) *ℤ (pos 2 *ℤ a +ℤ b) ≡ pos 5 *ℤ (b *ℤ b) +ℤ pos 4 *ℤ (a *ℤ a +ℤ a *ℤ b -ℤ b *ℤ b)
    square = solve integers integers_laws 2 (λ a b. (
      (con (pos 2) ⊗ a ⊕ b) ⊗ (con (pos 2) ⊗ a ⊕ b),
      con (pos 5) ⊗ (b ⊗ b) ⊕ con (pos 4) ⊗
          (a ⊗ a ⊕ a ⊗ b ⊖ b ⊗ b),
    )) refl

    no_norm : (a b : ℤ) → a *ℤ a +ℤ a *ℤ b -ℤ b *ℤ b ≡ pos 0 → (pos 2 *ℤ a +ℤ b) *ℤ (pos 2 *ℤ a +ℤ b) ≡ pos 5 *ℤ (b *ℤ b)
    no_norm a b e = square a b ∙ ap (λ z. pos 5 *ℤ (b *ℤ b) +ℤ pos 4 *ℤ z) e
        ∙ solve integers integers_laws 1 (λ b. (
          con (pos 5) ⊗ (b ⊗ b) ⊕ con (pos 4) ⊗ con (pos 0),
          con (pos 5)
              ⊗ (b ⊗ b),
        )) refl b

    at_norm : (a b : ℤ) → surd_sign (pos 5) (pos 2 *ℤ a +ℤ b) b ≡ Greater → (m : ℤ) → a *ℤ a +ℤ a *ℤ b -ℤ b *ℤ b ≡ m
        → (s : Pair ℤ) × (n : ℕ) × ((golden integers).mul s (record { a = a; b = b }) ≡ (golden integers).int (pos (suc n)))
    at_norm a b g (pos zero) e =
        let z = no_root_five (pos 2 *ℤ a +ℤ b) b (no_norm a b e) in
        absurd (cc (g, ap₂ (surd_sign (pos 5)) z.0 z.1))
    at_norm a b g (pos (suc n)) e = (
      record { a = a +ℤ b; b = neg_ℤ b },
      n,
      pair_path _ _
          (solve integers integers_laws 2 (λ a b. ((a ⊕ b) ⊗ a ⊕ neg b ⊗ b, a ⊗ a ⊕ a ⊗ b ⊖ b ⊗ b)) refl a b ∙ e)
          (solve integers integers_laws 2 (λ a b. ((a ⊕ b) ⊗ b ⊕ neg b ⊗ a ⊕ neg b ⊗ b, con (pos 0))) refl a b),
    )
    at_norm a b g (negsuc n) e = (
      record { a = neg_ℤ (a +ℤ b); b = b },
      n,
      pair_path _ _
          (solve integers integers_laws 2 (λ a b. (neg (a ⊕ b) ⊗ a ⊕ b ⊗ b, neg (a ⊗ a ⊕ a ⊗ b ⊖ b ⊗ b))) refl a b ∙ ap neg_ℤ e)
          (solve integers integers_laws 2 (λ a b. (neg (a ⊕ b) ⊗ b ⊕ b ⊗ a ⊕ b ⊗ b, con (pos 0))) refl a b),
    )
