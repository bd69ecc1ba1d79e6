-- Whole multiples of a positive number u + v√m pass every number s + t√m.
use Rattle.std.proofs.Common.{◌≡◌, inl, inr, ℤ, pos, negsuc, nat_abs, ◌+ℤ◌, ◌*ℤ◌, ◌-ℤ◌, ◌<ℤ◌, ◌≤ℤ◌, neg_ℤ, refl, sym, ap, ◌∙◌, arith, subst, subst₂}
use Rattle.std.proofs.lemmas.Int.{ints}
use Rattle.theory_ring.proofs.Normaliser.{con, neg, solve, ◌⊕◌, ◌⊖◌, ◌⊗◌}
use Rattle.theory_ring.specs.Ring.{integers}
use Rattle.theory_ring.specs.Squares.{NoRoot}
use Rattle.theory_ring.proofs.Integers.{integers_laws}
use Rattle.theory_ring.proofs.Squares.{mul_pos, mul_at_least, square_at_least, Above, Outweighs}
use Rattle.theory_ring.proofs.Surd.{plus_above, times_above}

pub below_abs : (u : ℤ) → u ≤ℤ pos (nat_abs u)
below_abs (pos n) = omega (arith, ints)
below_abs (negsuc n) = omega (arith, ints)

module _ (m : ℤ) (m_pos : pos 1 <ℤ m) where
  -- where w is above m b, and b at least |v|, w outweighs v√m
  pub outweighs_bound : (w b v : ℤ) → pos 0 <ℤ w → pos 0 ≤ℤ b → (v *ℤ v) ≤ℤ (b *ℤ b) → (m *ℤ b) <ℤ w → Outweighs m w v
  outweighs_bound w b v h l e k =
      let mm : pos 0 ≤ℤ ((m -ℤ pos 1) *ℤ (m *ℤ (b *ℤ b))) = mul_at_least (m -ℤ pos 1) (m *ℤ (b *ℤ b))
      (omega (arith, ints)) (mul_at_least m (b *ℤ b) (omega (arith, ints)) (square_at_least b)) in
      let sq : pos 0 <ℤ ((w -ℤ m *ℤ b) *ℤ (w +ℤ m *ℤ b)) = mul_pos (w -ℤ m *ℤ b) (w +ℤ m *ℤ b)
      (omega (arith, ints)) (let g : pos 0 ≤ℤ (m *ℤ b) = mul_at_least m b (omega (arith, ints)) l in omega
      (arith, ints)) in
      let mv : pos 0 ≤ℤ (m *ℤ (b *ℤ b -ℤ v *ℤ v)) = mul_at_least m (b *ℤ b -ℤ v *ℤ v) (omega (arith, ints)) (omega (arith, ints)) in
      let e1 : (m -ℤ pos 1) *ℤ (m *ℤ (b *ℤ b)) ≡ (m *ℤ b) *ℤ (m *ℤ b) -ℤ m *ℤ (b *ℤ b) = solve integers
      integers_laws 2 (λ m b. ((m ⊖ con (pos 1)) ⊗ (m ⊗ (b ⊗ b)), (m ⊗ b) ⊗ (m ⊗ b) ⊖ m ⊗ (b ⊗ b))) refl m
      b in
      let e2 : (w -ℤ m *ℤ b) *ℤ (w +ℤ m *ℤ b) ≡ w *ℤ w -ℤ (m *ℤ b) *ℤ (m *ℤ b) = solve integers integers_laws
      3 (λ w m b. ((w ⊖ m ⊗ b) ⊗ (w ⊕ m ⊗ b), w ⊗ w ⊖ (m ⊗ b) ⊗ (m ⊗ b))) refl w m b in
      let e3 : m *ℤ (b *ℤ b -ℤ v *ℤ v) ≡ m *ℤ (b *ℤ b) -ℤ m *ℤ (v *ℤ v) = solve integers integers_laws 3
      (λ m b v. (m ⊗ (b ⊗ b ⊖ v ⊗ v), m ⊗ (b ⊗ b) ⊖ m ⊗ (v ⊗ v))) refl m b v in
      record { above = h; larger = chain _ _ _ _ _ mm sq mv e1 e2 e3 }
    where
      chain : (x y z s t : ℤ) → pos 0 ≤ℤ x → pos 0 <ℤ y → pos 0 ≤ℤ z → x ≡ s -ℤ t → y ≡ (w *ℤ w) -ℤ s
          → z ≡ t -ℤ m *ℤ (v *ℤ v) → (m *ℤ (v *ℤ v)) <ℤ (w *ℤ w)
      chain x y z s t f g h a b c = omega (arith, ints)

  abs_square_at_least : (v : ℤ) → (v *ℤ v) ≤ℤ (pos (nat_abs v) *ℤ pos (nat_abs v))
  abs_square_at_least (pos n) = omega (arith, ints)
  abs_square_at_least (negsuc n) = omega (arith, ints)

  -- some whole number is above u + v√m
  abbrev pub top : ℤ → ℤ → ℤ
  top u v = pos (nat_abs u) +ℤ m *ℤ pos (nat_abs v) +ℤ pos 1

  top_pos : (u v : ℤ) → pos 0 <ℤ top u v
  top_pos u v = let g : pos 0 ≤ℤ (m *ℤ pos (nat_abs v)) = mul_at_least m (pos (nat_abs v))
      (omega (arith, ints)) (omega (arith, ints)) in omega (arith, ints)

  -- and so is every greater one
  pub top_above : (u v k : ℤ) → top u v ≤ℤ k → Above m (k -ℤ u) (neg_ℤ v)
  top_above u v k more =
      inl (outweighs_bound (k -ℤ u) (pos (nat_abs v)) (neg_ℤ v)
      (let f = below_abs u in let g : pos 0 ≤ℤ (m *ℤ pos (nat_abs v)) = mul_at_least m (pos (nat_abs v))
      (omega (arith, ints)) (omega (arith, ints)) in omega (arith, ints)) (omega (arith, ints))
      (subst (λ x. x ≤ℤ (pos (nat_abs v) *ℤ pos (nat_abs v)))
      (solve integers integers_laws 1 (λ v. (v ⊗ v, neg v ⊗ neg v)) refl v) (abs_square_at_least v))
      (let f = below_abs u in omega (arith, ints)))

  -- with a number (u', v') whose product with (u, v) is the whole number n, at least 1
  by_partner : (u v u' v' n s t : ℤ) → u' *ℤ u +ℤ m *ℤ (v' *ℤ v) ≡ n → u' *ℤ v +ℤ v' *ℤ u ≡ pos 0 → pos 0 <ℤ n → Above m u v → (no_root : NoRoot m)
      → (k : ℤ) × (pos 0 <ℤ k) × Above m (k *ℤ u -ℤ s) (k *ℤ v -ℤ t)
  by_partner u v u' v' n s t whole none n_pos a no_root =
      let j : ℤ = top u' v' in
      let l : ℤ = top s t in
      let l_pos : pos 0 <ℤ l = top_pos s t in
      let one : Above m ((j -ℤ u') *ℤ u +ℤ m *ℤ (neg_ℤ v' *ℤ v)) ((j -ℤ u') *ℤ v +ℤ neg_ℤ v' *ℤ u) =
      times_above m m_above (j -ℤ u') (neg_ℤ v') u v (top_above u' v' j (omega (arith, ints))) a in
      let two : Above m (l *ℤ ((j -ℤ u') *ℤ u +ℤ m *ℤ (neg_ℤ v' *ℤ v)) +ℤ m *ℤ
      (pos 0 *ℤ ((j -ℤ u') *ℤ v +ℤ neg_ℤ v' *ℤ u)))
      (l *ℤ ((j -ℤ u') *ℤ v +ℤ neg_ℤ v' *ℤ u) +ℤ pos 0 *ℤ ((j -ℤ u') *ℤ u +ℤ m *ℤ (neg_ℤ v' *ℤ v))) =
      times_above m m_above l (pos 0) ((j -ℤ u') *ℤ u +ℤ m *ℤ (neg_ℤ v' *ℤ v)) ((j -ℤ u') *ℤ v +ℤ neg_ℤ v' *ℤ u) (whole_above l l_pos) one in
      let three : Above m (l *ℤ n -ℤ s) (neg_ℤ t) = top_above s t (l *ℤ n) (at_least_times l n l_pos n_pos) in (
        l *ℤ j,
        mul_pos l j l_pos (top_pos u' v'),
        subst₂ (Above m)
            (ap (λ z. (l *ℤ ((j -ℤ u') *ℤ u +ℤ m *ℤ (neg_ℤ v' *ℤ v)) +ℤ m *ℤ
            (pos 0 *ℤ ((j -ℤ u') *ℤ v +ℤ neg_ℤ v' *ℤ u))) +ℤ (l *ℤ z -ℤ s)) (sym whole)
            ∙ solve integers integers_laws 8 (λ m l j u v u' v' s. (
              (l ⊗ ((j ⊖ u') ⊗ u ⊕ m ⊗ (neg v' ⊗ v)) ⊕ m ⊗ (con (pos 0) ⊗ ((j ⊖ u') ⊗ v ⊕ neg v' ⊗ u))) ⊕
                  (l ⊗ (u' ⊗ u ⊕ m ⊗ (v' ⊗ v)) ⊖ s),
              l ⊗ j ⊗ u ⊖ s,
            )) refl m l j u v u' v' s)
            (solve integers integers_laws 8 (λ m l j u v u' v' t. (
              (l ⊗ ((j ⊖ u') ⊗ v ⊕ neg v' ⊗ u) ⊕ con (pos 0) ⊗ ((j ⊖ u') ⊗ u ⊕ m ⊗ (neg v' ⊗ v))) ⊕ neg t,
              (l ⊗ j ⊗ v ⊖ t) ⊖ l ⊗ (u' ⊗ v ⊕ v' ⊗ u),
            )) refl m l j u v u' v' t
            ∙ ap (λ z. (l *ℤ j *ℤ v -ℤ t) -ℤ l *ℤ z) none
            ∙ solve integers integers_laws 2 (λ x l. (x ⊖ l ⊗ con (pos 0), x)) refl (l *ℤ j *ℤ v -ℤ t) l)
            (plus_above m m_above no_root
            (l *ℤ ((j -ℤ u') *ℤ u +ℤ m *ℤ (neg_ℤ v' *ℤ v)) +ℤ m *ℤ
            (pos 0 *ℤ ((j -ℤ u') *ℤ v +ℤ neg_ℤ v' *ℤ u)))
            (l *ℤ ((j -ℤ u') *ℤ v +ℤ neg_ℤ v' *ℤ u) +ℤ pos 0 *ℤ ((j -ℤ u') *ℤ u +ℤ m *ℤ (neg_ℤ v' *ℤ v)))
            (l *ℤ n -ℤ s) (neg_ℤ t) two three),
      )
    where
      m_above : pos 0 <ℤ m
      m_above = omega (arith, ints)

      whole_above : (l : ℤ) → pos 0 <ℤ l → Above m l (pos 0)
      whole_above l h = inl (record {
        above = h;
        larger = subst (λ x. x <ℤ (l *ℤ l)) (solve integers integers_laws 1
            (λ m. (con (pos 0), m ⊗ (con (pos 0) ⊗ con (pos 0)))) refl m) (mul_pos l l h h);
      })

      at_least_times : (l n : ℤ) → pos 0 <ℤ l → pos 0 <ℤ n → l ≤ℤ (l *ℤ n)
      at_least_times l n h k =
          let f : pos 0 ≤ℤ (l *ℤ (n -ℤ pos 1)) = mul_at_least l (n -ℤ pos 1) (omega (arith, ints)) (omega (arith, ints)) in
          let e : l *ℤ (n -ℤ pos 1) ≡ l *ℤ n -ℤ l = solve integers integers_laws 2 (λ l n. (l ⊗ (n ⊖ con (pos 1)), l ⊗ n ⊖ l)) refl l n in
          omega (arith, ints)

  -- whole multiples of a positive number pass any number
  pub passes_any : (u v s t : ℤ) → NoRoot m → Above m u v → (k : ℤ) × (pos 0 <ℤ k) × Above m (k *ℤ u -ℤ s) (k *ℤ v -ℤ t)
  passes_any u v s t no_root (inl p) =
      by_partner u v u (neg_ℤ v) (u *ℤ u -ℤ m *ℤ (v *ℤ v)) s t
      (solve integers integers_laws 3 (λ m u v. (u ⊗ u ⊕ m ⊗ (neg v ⊗ v), u ⊗ u ⊖ m ⊗ (v ⊗ v))) refl m u v)
      (solve integers integers_laws 2 (λ u v. (u ⊗ v ⊕ neg v ⊗ u, con (pos 0))) refl u v)
      (let g = p.larger in omega (arith, ints)) (inl p) no_root
  passes_any u v s t no_root (inr p) =
      by_partner u v (neg_ℤ u) v (m *ℤ (v *ℤ v) -ℤ u *ℤ u) s t
      (solve integers integers_laws 3 (λ m u v. (neg u ⊗ u ⊕ m ⊗ (v ⊗ v), m ⊗ (v ⊗ v) ⊖ u ⊗ u)) refl m u v)
      (solve integers integers_laws 2 (λ u v. (neg u ⊗ v ⊕ v ⊗ u, con (pos 0))) refl u v)
      (let g = p.larger in omega (arith, ints)) (inr p) no_root
