-- The sign of u + v√m, and the three ordered rings.
use Rattle.std.proofs.Common.{◌≡◌, ◌⊎◌, inl, inr, ℤ, pos, ◌+ℤ◌, ◌*ℤ◌, ◌<ℤ◌, neg_ℤ, refl, sym, ap, ap₂, ◌∙◌, arith, subst₂, Bool, true, false, cond}
use Rattle.std.specs.Ordering.{int_cmp, ordering_reverse}
use Rattle.std.specs.declared.cmp.Ordering.TheVariants.{Less, Equal, Greater}
use Rattle.std.proofs.lemmas.Int.{ints}
use Rattle.theory_ring.proofs.Normaliser.{con, solve, ◌⊗◌}
use Rattle.theory_ring.specs.Sign.{surd_positive, surd_sign}
use Rattle.theory_ring.specs.Ring.{integers}
use Rattle.theory_ring.proofs.Integers.{integers_laws}
use Rattle.theory_ring.specs.Squares.{NoRoot}
use Rattle.theory_ring.proofs.Squares.{Above}
use Rattle.theory_ring.proofs.Surd.{times_above, plus_above, three, square_neg}

positive-of_above : (m u v : ℤ) → Above m u v → surd_positive m u v ≡ true
positive-of_above m u v h = grind (arith, ints)

-- a number that is positive by its cases isn't the negative of one
positive-not_below : (m u v : ℤ) → neg_ℤ u *ℤ neg_ℤ u ≡ u *ℤ u → m *ℤ (neg_ℤ v *ℤ neg_ℤ v) ≡ m *ℤ (v *ℤ v)
    → surd_positive m u v ≡ true → Above m (neg_ℤ u) (neg_ℤ v) → ⊥
positive-not_below m u v e f h (inl p) = let a = p.above in let b = p.larger in grind (arith, ints)
positive-not_below m u v e f h (inr p) = let a = p.above in let b = p.larger in grind (arith, ints)

sign_from : (m u v : ℤ) (a b : Bool) → surd_positive m u v ≡ a → surd_positive m (neg_ℤ u) (neg_ℤ v) ≡ b
    → surd_sign m u v ≡ cond a Greater (cond b Less Equal)
sign_from m u v a b e f = ap₂ (λ x y. cond x Greater (cond y Less Equal)) e f

module _ (m : ℤ) (m_pos : pos 0 <ℤ m) (no_root : NoRoot m) where
  pub sign-above : (u v : ℤ) → Above m u v → surd_sign m u v ≡ Greater
  sign-above u v a = ap (λ x. cond x Greater (cond (surd_positive m (neg_ℤ u) (neg_ℤ v)) Less Equal)) (positive-of_above m u v a)

  not_positive : (u v : ℤ) → Above m (neg_ℤ u) (neg_ℤ v) → surd_positive m u v ≡ false
  not_positive u v a = at_test (surd_positive m u v) refl
    where
      at_test : (b : Bool) → surd_positive m u v ≡ b → b ≡ false
      at_test false e = refl
      at_test true e = absurd (positive-not_below m u v (square_neg m m_pos u) (ap (λ x. m *ℤ x) (square_neg m m_pos v)) e a)

  sign-below : (u v : ℤ) → Above m (neg_ℤ u) (neg_ℤ v) → surd_sign m u v ≡ Less
  sign-below u v a = sign_from m u v false true (not_positive u v a) (positive-of_above m (neg_ℤ u) (neg_ℤ v) a)

  sign-zero : (u v : ℤ) → u ≡ pos 0 → v ≡ pos 0 → surd_sign m u v ≡ Equal
  sign-zero u v e f = ap₂ (surd_sign m) e f

  pub above-of_sign : (u v : ℤ) → surd_sign m u v ≡ Greater → Above m u v
  above-of_sign u v h = at_case (three m m_pos no_root u v)
    where
      at_case : Above m u v ⊎ (((u ≡ pos 0) × (v ≡ pos 0)) ⊎ Above m (neg_ℤ u) (neg_ℤ v)) → Above m u v
      at_case (inl a) = a
      at_case (inr (inl z)) = absurd (cc (h, sign-zero u v z.0 z.1))
      at_case (inr (inr a)) = absurd (cc (h, sign-below u v a))

  pub zero-of_sign : (u v : ℤ) → surd_sign m u v ≡ Equal → (u ≡ pos 0) × (v ≡ pos 0)
  zero-of_sign u v h = at_case (three m m_pos no_root u v)
    where
      at_case : Above m u v ⊎ (((u ≡ pos 0) × (v ≡ pos 0)) ⊎ Above m (neg_ℤ u) (neg_ℤ v)) → (u ≡ pos 0) × (v ≡ pos 0)
      at_case (inl a) = absurd (cc (h, sign-above u v a))
      at_case (inr (inl z)) = z
      at_case (inr (inr a)) = absurd (cc (h, sign-below u v a))

  pub surd-neg : (u v : ℤ) → surd_sign m (neg_ℤ u) (neg_ℤ v) ≡ ordering_reverse (surd_sign m u v)
  surd-neg u v = at_case (three m m_pos no_root u v)
    where
      twice : (x : ℤ) → x ≡ neg_ℤ (neg_ℤ x)
      twice x = omega (arith, ints)

      at_case : Above m u v ⊎ (((u ≡ pos 0) × (v ≡ pos 0)) ⊎ Above m (neg_ℤ u) (neg_ℤ v))
          → surd_sign m (neg_ℤ u) (neg_ℤ v) ≡ ordering_reverse (surd_sign m u v)
      at_case (inl a) = sign-below (neg_ℤ u) (neg_ℤ v) (subst₂ (Above m) (twice u) (twice v) a) ∙ sym (ap ordering_reverse (sign-above u v a))
      at_case (inr (inl z)) = sign-zero (neg_ℤ u) (neg_ℤ v) (ap neg_ℤ z.0) (ap neg_ℤ z.1) ∙ sym (ap ordering_reverse (sign-zero u v z.0 z.1))
      at_case (inr (inr a)) = sign-above (neg_ℤ u) (neg_ℤ v) a ∙ sym (ap ordering_reverse (sign-below u v a))

  pub surd-add : (u v s t : ℤ) → surd_sign m u v ≡ Greater → surd_sign m s t ≡ Greater → surd_sign m (u +ℤ s) (v +ℤ t) ≡ Greater
  surd-add u v s t p q = sign-above (u +ℤ s) (v +ℤ t) (plus_above m m_pos no_root u v s t (above-of_sign u v p) (above-of_sign s t q))

  pub surd-mul : (u v s t : ℤ) → surd_sign m u v ≡ Greater → surd_sign m s t ≡ Greater
      → surd_sign m (u *ℤ s +ℤ m *ℤ (v *ℤ t)) (u *ℤ t +ℤ v *ℤ s) ≡ Greater
  surd-mul u v s t p q = sign-above (u *ℤ s +ℤ m *ℤ (v *ℤ t)) (u *ℤ t +ℤ v *ℤ s)
      (times_above m m_pos u v s t (above-of_sign u v p) (above-of_sign s t q))

  -- half of what is positive is positive
  half_above : (u v : ℤ) → Above m (pos 2 *ℤ u) (pos 2 *ℤ v) → Above m u v
  half_above u v (inl p) =
      let a = p.above in
      let b = subst₂ (λ x y. x <ℤ y)
      (solve integers integers_laws 2 (λ m v. (m ⊗ ((con (pos 2) ⊗ v) ⊗ (con (pos 2) ⊗ v)), con (pos 4) ⊗ (m ⊗ (v ⊗ v)))) refl m v)
      (solve integers integers_laws 1 (λ u. ((con (pos 2) ⊗ u) ⊗ (con (pos 2) ⊗ u), con (pos 4) ⊗ (u ⊗ u))) refl u) p.larger in
      inl (record { above = omega (arith, ints); larger = omega (arith, ints) })
  half_above u v (inr p) =
      let a = p.above in
      let b = subst₂ (λ x y. x <ℤ y)
      (solve integers integers_laws 1 (λ u. ((con (pos 2) ⊗ u) ⊗ (con (pos 2) ⊗ u), con (pos 4) ⊗ (u ⊗ u))) refl u)
      (solve integers integers_laws 2 (λ m v. (m ⊗ ((con (pos 2) ⊗ v) ⊗ (con (pos 2) ⊗ v)), con (pos 4) ⊗ (m ⊗ (v ⊗ v)))) refl m v) p.larger in
      inr (record { above = omega (arith, ints); larger = omega (arith, ints) })

  pub surd-half : (u v : ℤ) → surd_sign m (pos 2 *ℤ u) (pos 2 *ℤ v) ≡ Greater → surd_sign m u v ≡ Greater
  surd-half u v h = sign-above u v (half_above u v (above-of_sign (pos 2 *ℤ u) (pos 2 *ℤ v) h))

-- ---- what code computes: where u and v have two signs, the squares are compared
sign_by_cmp_first : (m u v : ℤ) → neg_ℤ u *ℤ neg_ℤ u ≡ u *ℤ u → m *ℤ (neg_ℤ v *ℤ neg_ℤ v) ≡ m *ℤ (v *ℤ v)
    → pos 0 <ℤ u → v <ℤ pos 0 → surd_sign m u v ≡ int_cmp (u *ℤ u) (m *ℤ (v *ℤ v))
sign_by_cmp_first m u v e f h k = grind (arith, ints)

sign_by_cmp_second : (m u v : ℤ) → neg_ℤ u *ℤ neg_ℤ u ≡ u *ℤ u → m *ℤ (neg_ℤ v *ℤ neg_ℤ v) ≡ m *ℤ (v *ℤ v)
    → u <ℤ pos 0 → pos 0 <ℤ v → surd_sign m u v ≡ int_cmp (m *ℤ (v *ℤ v)) (u *ℤ u)
sign_by_cmp_second m u v e f h k = grind (arith, ints)

pub sign_first : (m u v : ℤ) → pos 0 <ℤ u → v <ℤ pos 0 → surd_sign m u v ≡ int_cmp (u *ℤ u) (m *ℤ (v *ℤ v))
sign_first m u v = sign_by_cmp_first m u v (square_neg (pos 1) one_above u) (ap (λ x. m *ℤ x) (square_neg (pos 1) one_above v))
  where
    one_above : pos 0 <ℤ pos 1
    one_above = omega (arith, ints)

pub sign_second : (m u v : ℤ) → u <ℤ pos 0 → pos 0 <ℤ v → surd_sign m u v ≡ int_cmp (m *ℤ (v *ℤ v)) (u *ℤ u)
sign_second m u v = sign_by_cmp_second m u v (square_neg (pos 1) one_above u) (ap (λ x. m *ℤ x) (square_neg (pos 1) one_above v))
  where
    one_above : pos 0 <ℤ pos 1
    one_above = omega (arith, ints)
