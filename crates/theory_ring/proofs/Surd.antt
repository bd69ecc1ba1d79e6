-- Sums and products of positive numbers u + v√m are positive, and of a number, 0 and its negative one is right.
use Rattle.std.proofs.Common.{◌≡◌, ◌⊎◌, inl, inr, ℤ, pos, ◌+ℤ◌, ◌*ℤ◌, ◌-ℤ◌, ◌<ℤ◌, ◌≤ℤ◌, neg_ℤ, refl, sym, ap, ◌∙◌, arith, subst, subst₂}
use Rattle.std.proofs.lemmas.Int.{ints, by_lt_z}
use Rattle.theory_ring.proofs.Normaliser.{con, neg, solve, ◌⊕◌, ◌⊖◌, ◌⊗◌}
use Rattle.theory_ring.specs.Ring.{integers}
use Rattle.theory_ring.proofs.Integers.{integers_laws}
use Rattle.theory_ring.specs.Squares.{NoRoot}
use Rattle.theory_ring.proofs.Squares.{mul_pos, mul_at_least, square_at_least, dominates, product_below, norms, Above, Outweighs, Outweighed}

cancel_pos : (m x y : ℤ) → pos 0 <ℤ m → (m *ℤ x) <ℤ (m *ℤ y) → x <ℤ y
cancel_pos m x y h k =
    by_lt_z x y (λ g. g) (λ g.
    let f : pos 0 ≤ℤ (m *ℤ (x -ℤ y)) = mul_at_least m (x -ℤ y) (omega (arith, ints)) (omega (arith, ints)) in
    let e : m *ℤ (x -ℤ y) ≡ m *ℤ x -ℤ m *ℤ y = solve integers integers_laws 3 (λ m x y. (m ⊗ (x ⊖ y), m ⊗ x ⊖ m ⊗ y)) refl m x y in
    absurd (omega (arith, ints)))

module _ (m : ℤ) (m_pos : pos 0 <ℤ m) where
  at_least_root : (v : ℤ) → pos 0 ≤ℤ (m *ℤ (v *ℤ v))
  at_least_root v = mul_at_least m (v *ℤ v) (omega (arith, ints)) (square_at_least v)

  -- us outweighs mvt
  first_first : (u v s t : ℤ) → Outweighs m u v → Outweighs m s t → (pos 0 <ℤ (u *ℤ s +ℤ m *ℤ (v *ℤ t))) × (pos 0 <ℤ (u *ℤ s -ℤ m *ℤ (v *ℤ t)))
  first_first u v s t p q =
      dominates (u *ℤ s) (m *ℤ (v *ℤ t)) (mul_pos u s p.above q.above)
      (subst₂ (λ x y. x <ℤ y)
      (solve integers integers_laws 3 (λ m v t. ((m ⊗ (v ⊗ v)) ⊗ (m ⊗ (t ⊗ t)), (m ⊗ (v ⊗ t)) ⊗ (m ⊗ (v ⊗ t)))) refl m v t)
      (solve integers integers_laws 2 (λ u s. ((u ⊗ u) ⊗ (s ⊗ s), (u ⊗ s) ⊗ (u ⊗ s))) refl u s)
      (product_below (m *ℤ (v *ℤ v)) (u *ℤ u) (m *ℤ (t *ℤ t)) (s *ℤ s) (at_least_root v) p.larger (at_least_root t) q.larger))

  -- mvt outweighs us
  second_second : (u v s t : ℤ) → Outweighed m u v → Outweighed m s t → (pos 0 <ℤ (m *ℤ (v *ℤ t) +ℤ u *ℤ s)) × (pos 0 <ℤ (m *ℤ (v *ℤ t) -ℤ u *ℤ s))
  second_second u v s t p q =
      dominates (m *ℤ (v *ℤ t)) (u *ℤ s) (mul_pos m (v *ℤ t) m_pos (mul_pos v t p.above q.above))
      (subst₂ (λ x y. x <ℤ y)
      (solve integers integers_laws 2 (λ u s. ((u ⊗ u) ⊗ (s ⊗ s), (u ⊗ s) ⊗ (u ⊗ s))) refl u s)
      (solve integers integers_laws 3 (λ m v t. ((m ⊗ (v ⊗ v)) ⊗ (m ⊗ (t ⊗ t)), (m ⊗ (v ⊗ t)) ⊗ (m ⊗ (v ⊗ t)))) refl m v t)
      (product_below (u *ℤ u) (m *ℤ (v *ℤ v)) (s *ℤ s) (m *ℤ (t *ℤ t)) (square_at_least u) p.larger (square_at_least s) q.larger))

  -- ut outweighs vs
  first_second : (u v s t : ℤ) → Outweighs m u v → Outweighed m s t → (pos 0 <ℤ (u *ℤ t +ℤ v *ℤ s)) × (pos 0 <ℤ (u *ℤ t -ℤ v *ℤ s))
  first_second u v s t p q =
      dominates (u *ℤ t) (v *ℤ s) (mul_pos u t p.above q.above)
      (cancel_pos m ((v *ℤ s) *ℤ (v *ℤ s)) ((u *ℤ t) *ℤ (u *ℤ t)) m_pos
      (subst₂ (λ x y. x <ℤ y)
      (solve integers integers_laws 3 (λ m v s. ((m ⊗ (v ⊗ v)) ⊗ (s ⊗ s), m ⊗ ((v ⊗ s) ⊗ (v ⊗ s)))) refl m v s)
      (solve integers integers_laws 3 (λ m u t. ((u ⊗ u) ⊗ (m ⊗ (t ⊗ t)), m ⊗ ((u ⊗ t) ⊗ (u ⊗ t)))) refl m u t)
      (product_below (m *ℤ (v *ℤ v)) (u *ℤ u) (s *ℤ s) (m *ℤ (t *ℤ t)) (at_least_root v) p.larger (square_at_least s) q.larger)))

  times_first_second : (u v s t : ℤ) → Outweighs m u v → Outweighed m s t → Outweighed m (u *ℤ s +ℤ m *ℤ (v *ℤ t)) (u *ℤ t +ℤ v *ℤ s)
  times_first_second u v s t p q =
      let n : pos 0 <ℤ ((u *ℤ u -ℤ m *ℤ (v *ℤ v)) *ℤ (m *ℤ (t *ℤ t) -ℤ s *ℤ s)) =
      mul_pos (u *ℤ u -ℤ m *ℤ (v *ℤ v)) (m *ℤ (t *ℤ t) -ℤ s *ℤ s) (below_diff _ _ p.larger) (below_diff _ _ q.larger) in
      record {
        above = (first_second u v s t p q).0;
        larger = below_of_diff _ _ (subst (λ x. pos 0 <ℤ x)
            (solve integers integers_laws 5 (λ m u v s t. (
              (u ⊗ u ⊖ m ⊗ (v ⊗ v)) ⊗ (m ⊗ (t ⊗ t) ⊖ s ⊗ s),
              m ⊗ ((u ⊗ t ⊕ v ⊗ s) ⊗ (u ⊗ t ⊕ v ⊗ s)) ⊖ (u ⊗ s ⊕ m ⊗ (v ⊗ t)) ⊗ (u ⊗ s ⊕ m ⊗ (v ⊗ t)),
            )) refl m u v s t) n);
      }
    where
      below_diff : (x y : ℤ) → x <ℤ y → pos 0 <ℤ (y -ℤ x)
      below_diff x y h = omega (arith, ints)

      below_of_diff : (x y : ℤ) → pos 0 <ℤ (y -ℤ x) → x <ℤ y
      below_of_diff x y h = omega (arith, ints)

  pub times_above : (u v s t : ℤ) → Above m u v → Above m s t → Above m (u *ℤ s +ℤ m *ℤ (v *ℤ t)) (u *ℤ t +ℤ v *ℤ s)
  times_above u v s t (inl p) (inl q) =
      let n : pos 0 <ℤ ((u *ℤ u -ℤ m *ℤ (v *ℤ v)) *ℤ (s *ℤ s -ℤ m *ℤ (t *ℤ t))) =
      mul_pos (u *ℤ u -ℤ m *ℤ (v *ℤ v)) (s *ℤ s -ℤ m *ℤ (t *ℤ t)) (let g = p.larger in omega (arith, ints))
      (let g = q.larger in omega (arith, ints)) in
      let e = norms m u v s t in
      inl (record { above = (first_first u v s t p q).0; larger = omega (arith, ints) })
  times_above u v s t (inr p) (inr q) =
      let n : pos 0 <ℤ ((m *ℤ (v *ℤ v) -ℤ u *ℤ u) *ℤ (m *ℤ (t *ℤ t) -ℤ s *ℤ s)) =
      mul_pos (m *ℤ (v *ℤ v) -ℤ u *ℤ u) (m *ℤ (t *ℤ t) -ℤ s *ℤ s) (let g = p.larger in omega (arith, ints))
      (let g = q.larger in omega (arith, ints)) in
      let f = (second_second u v s t p q).0 in
      let e : (m *ℤ (v *ℤ v) -ℤ u *ℤ u) *ℤ (m *ℤ (t *ℤ t) -ℤ s *ℤ s) ≡ (u *ℤ u -ℤ m *ℤ (v *ℤ v)) *ℤ (s *ℤ s -ℤ m *ℤ (t *ℤ t)) =
      solve integers integers_laws 5 (λ m u v s t.
      ((m ⊗ (v ⊗ v) ⊖ u ⊗ u) ⊗ (m ⊗ (t ⊗ t) ⊖ s ⊗ s), (u ⊗ u ⊖ m ⊗ (v ⊗ v)) ⊗ (s ⊗ s ⊖ m ⊗ (t ⊗ t)))) refl
      m u v s t in
      let e' = norms m u v s t in
      inl (record { above = omega (arith, ints); larger = omega (arith, ints) })
  times_above u v s t (inl p) (inr q) = inr (times_first_second u v s t p q)
  times_above u v s t (inr p) (inl q) =
      inr (subst₂ (Outweighed m)
      (solve integers integers_laws 5 (λ m u v s t. (s ⊗ u ⊕ m ⊗ (t ⊗ v), u ⊗ s ⊕ m ⊗ (v ⊗ t))) refl m u v s t)
      (solve integers integers_laws 4 (λ u v s t. (s ⊗ v ⊕ t ⊗ u, u ⊗ t ⊕ v ⊗ s)) refl u v s t)
      (times_first_second s t u v q p))

  plus_first : (u v s t : ℤ) → Outweighs m u v → Outweighs m s t → Outweighs m (u +ℤ s) (v +ℤ t)
  plus_first u v s t p q =
      let a = p.above in let b = p.larger in let c = q.above in let d = q.larger in
      let f = (first_first u v s t p q).1 in
      let e : (u +ℤ s) *ℤ (u +ℤ s) -ℤ m *ℤ ((v +ℤ t) *ℤ (v +ℤ t)) ≡ (u *ℤ u -ℤ m *ℤ (v *ℤ v)) +ℤ
      (s *ℤ s -ℤ m *ℤ (t *ℤ t)) +ℤ pos 2 *ℤ (u *ℤ s -ℤ m *ℤ (v *ℤ t)) =
      solve integers integers_laws 5 (λ m u v s t. (
        (u ⊕ s) ⊗ (u ⊕ s) ⊖ m ⊗ ((v ⊕ t) ⊗ (v ⊕ t)),
        (u ⊗ u ⊖ m ⊗ (v ⊗ v)) ⊕ (s ⊗ s ⊖ m ⊗ (t ⊗ t)) ⊕ con
            (pos 2) ⊗ (u ⊗ s ⊖ m ⊗ (v ⊗ t)),
      )) refl m u v s t in
      record { above = omega (arith, ints); larger = omega (arith, ints) }

  plus_second : (u v s t : ℤ) → Outweighed m u v → Outweighed m s t → Outweighed m (u +ℤ s) (v +ℤ t)
  plus_second u v s t p q =
      let a = p.above in let b = p.larger in let c = q.above in let d = q.larger in
      let f = (second_second u v s t p q).1 in
      let e : m *ℤ ((v +ℤ t) *ℤ (v +ℤ t)) -ℤ (u +ℤ s) *ℤ (u +ℤ s) ≡ (m *ℤ (v *ℤ v) -ℤ u *ℤ u) +ℤ
      (m *ℤ (t *ℤ t) -ℤ s *ℤ s) +ℤ pos 2 *ℤ (m *ℤ (v *ℤ t) -ℤ u *ℤ s) =
      solve integers integers_laws 5 (λ m u v s t. (
        m ⊗ ((v ⊕ t) ⊗ (v ⊕ t)) ⊖ (u ⊕ s) ⊗ (u ⊕ s),
        (m ⊗ (v ⊗ v) ⊖ u ⊗ u) ⊕ (m ⊗ (t ⊗ t) ⊖ s ⊗ s) ⊕ con
            (pos 2) ⊗ (m ⊗ (v ⊗ t) ⊖ u ⊗ s),
      )) refl m u v s t in
      record { above = omega (arith, ints); larger = omega (arith, ints) }

  pub square_neg : (u : ℤ) → neg_ℤ u *ℤ neg_ℤ u ≡ u *ℤ u
  square_neg = solve integers integers_laws 1 (λ u. (neg u ⊗ neg u, u ⊗ u)) refl

  -- which of the two has the greater square stays so at the negative
  pub above_once : (u v : ℤ) → Above m u v → Above m (neg_ℤ u) (neg_ℤ v) → ⊥
  above_once u v (inl p) (inl q) = let a = p.above in let b = q.above in omega (arith, ints)
  above_once u v (inr p) (inr q) = let a = p.above in let b = q.above in omega (arith, ints)
  above_once u v (inl p) (inr q) = let a = p.larger in let b = subst₂ (λ x y. x <ℤ (m *ℤ y)) (square_neg u)
      (square_neg v) q.larger in omega (arith, ints)
  above_once u v (inr p) (inl q) = let a = p.larger in let b = subst₂ (λ x y. (m *ℤ y) <ℤ x) (square_neg u)
      (square_neg v) q.larger in omega (arith, ints)

  module _ (no_root : NoRoot m) where
    pub three : (u v : ℤ) → Above m u v ⊎ (((u ≡ pos 0) × (v ≡ pos 0)) ⊎ Above m (neg_ℤ u) (neg_ℤ v))
    three u v =
        by_lt_z (u *ℤ u) (m *ℤ (v *ℤ v)) (λ h. second h) (λ g. by_lt_z (m *ℤ (v *ℤ v)) (u *ℤ u) (λ h. first h)
        (λ k. inr (inl (no_root u v (omega (arith, ints))))))
      where
        square_of_zero : (u : ℤ) → u ≡ pos 0 → u *ℤ u ≡ pos 0
        square_of_zero u e = ap (λ x. x *ℤ x) e

        first : (m *ℤ (v *ℤ v)) <ℤ (u *ℤ u) → Above m u v ⊎ (((u ≡ pos 0) × (v ≡ pos 0)) ⊎ Above m (neg_ℤ u) (neg_ℤ v))
        first h = by_lt_z (pos 0) u (λ g. inl (inl (record { above = g; larger = h })))
            (λ g. by_lt_z u (pos 0)
            (λ k. inr (inr (inl (record {
              above = omega (arith, ints);
              larger = subst₂ (λ x y. (m *ℤ y) <ℤ x) (sym (square_neg u)) (sym (square_neg v)) h;
            }))))
            (λ k. let z = at_least_root v in let y = square_of_zero u (omega (arith, ints)) in absurd (omega (arith, ints))))

        root_of_zero : (v : ℤ) → v ≡ pos 0 → m *ℤ (v *ℤ v) ≡ pos 0
        root_of_zero v e = ap (λ x. m *ℤ (x *ℤ x)) e ∙ solve integers integers_laws 1 (λ m. (m ⊗ (con (pos 0) ⊗ con (pos 0)), con (pos 0))) refl m

        second : (u *ℤ u) <ℤ (m *ℤ (v *ℤ v)) → Above m u v ⊎ (((u ≡ pos 0) × (v ≡ pos 0)) ⊎ Above m (neg_ℤ u) (neg_ℤ v))
        second h = by_lt_z (pos 0) v (λ g. inl (inr (record { above = g; larger = h })))
            (λ g. by_lt_z v (pos 0)
            (λ k. inr (inr (inr (record {
              above = omega (arith, ints);
              larger = subst₂ (λ x y. x <ℤ (m *ℤ y)) (sym (square_neg u)) (sym (square_neg v)) h;
            }))))
            (λ k. let z = square_at_least u in let y = root_of_zero v (omega (arith, ints)) in absurd (omega (arith, ints))))

    -- the sum of one of each kind: its negative would make one of the two the other kind
    plus_mixed : (u v s t : ℤ) → Outweighs m u v → Outweighed m s t → Above m (u +ℤ s) (v +ℤ t)
    plus_mixed u v s t p q = at_case (three (u +ℤ s) (v +ℤ t))
      where
        rest : (u s : ℤ) → neg_ℤ (u +ℤ s) +ℤ u ≡ neg_ℤ s
        rest u s = omega (arith, ints)

        rest' : (u s : ℤ) → neg_ℤ (u +ℤ s) +ℤ s ≡ neg_ℤ u
        rest' u s = omega (arith, ints)

        at_case : Above m (u +ℤ s) (v +ℤ t) ⊎ (((u +ℤ s ≡ pos 0) × (v +ℤ t ≡ pos 0))
            ⊎ Above m (neg_ℤ (u +ℤ s)) (neg_ℤ (v +ℤ t))) → Above m (u +ℤ s) (v +ℤ t)
        at_case (inl a) = a
        at_case (inr (inl z)) = absurd (above_once s t (inr q)
            (inl (subst₂ (Outweighs m) (omega (arith, ints, z.0)) (omega (arith, ints, z.1)) p)))
        at_case (inr (inr (inl a))) = absurd (above_once s t (inr q)
            (inl (subst₂ (Outweighs m) (rest u s) (rest v t) (plus_first (neg_ℤ (u +ℤ s)) (neg_ℤ (v +ℤ t)) u v a p))))
        at_case (inr (inr (inr a))) = absurd (above_once u v (inl p)
            (inr (subst₂ (Outweighed m) (rest' u s) (rest' v t) (plus_second (neg_ℤ (u +ℤ s)) (neg_ℤ (v +ℤ t)) s t a q))))

    pub plus_above : (u v s t : ℤ) → Above m u v → Above m s t → Above m (u +ℤ s) (v +ℤ t)
    plus_above u v s t (inl p) (inl q) = inl (plus_first u v s t p q)
    plus_above u v s t (inr p) (inr q) = inr (plus_second u v s t p q)
    plus_above u v s t (inl p) (inr q) = plus_mixed u v s t p q
    plus_above u v s t (inr p) (inl q) =
        subst₂ (Above m) (omega (arith, ints)) (omega (arith, ints)) (plus_mixed s t u v q p)
