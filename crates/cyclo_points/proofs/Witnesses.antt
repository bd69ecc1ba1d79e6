-- Whole numbers that have the sign of u + v√m: the sum of signed squares u|u| + m v|v|, and qu + pv where p/q is near √m.
use Rattle.std.specs.Ordering.{int_cmp, ordering_reverse}
use Rattle.std.specs.declared.cmp.Ordering.{Ordering}
use Rattle.std.specs.declared.cmp.Ordering.TheVariants.{Less, Equal, Greater}
use Rattle.std.proofs.Common.{◌≡◌, ◌⊎◌, inl, inr, ℤ, pos, negsuc, ◌+ℤ◌, ◌*ℤ◌, ◌-ℤ◌, ◌≤ℤ◌, ◌<ℤ◌, neg_ℤ, unsigned_abs, refl, sym, subst, ap, ap₂, ◌∙◌, arith}
use Rattle.std.proofs.lemmas.Int.{ints}
use Rattle.theory_ring.specs.Ring.{integers}
use Rattle.theory_ring.specs.Squares.{NoRoot}
use Rattle.theory_ring.specs.Sign.{surd_sign}
use Rattle.theory_ring.proofs.Normaliser.{con, neg, solve, ◌⊕◌, ◌⊖◌, ◌⊗◌}
use Rattle.theory_ring.proofs.Integers.{integers_laws}
use Rattle.theory_ring.proofs.Squares.{mul_pos, mul_at_least, square_at_least, dominates, Above}
use Rattle.theory_ring.proofs.Surd.{three}
use Rattle.theory_ring.proofs.SurdSign.{sign-above, surd-neg}

-- ---- a number that is positive where u + v√m is, and negative where that is, has its sign
above_zero : (x : ℤ) → pos 0 <ℤ x → Greater ≡ int_cmp x (pos 0)
above_zero x h = grind (arith, ints)

below_zero : (x : ℤ) → x <ℤ pos 0 → Less ≡ int_cmp x (pos 0)
below_zero x h = grind (arith, ints)

reversed_greater : (s : Ordering) → ordering_reverse s ≡ Greater → s ≡ Less
reversed_greater Less e = refl
reversed_greater Equal e = absurd (cc e)
reversed_greater Greater e = absurd (cc e)

module _ (m : ℤ) (m_pos : pos 0 <ℤ m) (no_root : NoRoot m) where
  pub sign-of_witness : (u v s : ℤ) → (Above m u v → pos 0 <ℤ s) → (Above m (neg_ℤ u) (neg_ℤ v) → s <ℤ pos 0) → (u ≡ pos 0 → v ≡ pos 0 → s ≡ pos 0)
      → surd_sign m u v ≡ int_cmp s (pos 0)
  sign-of_witness u v s f g h = at_case (three m m_pos no_root u v)
    where
      at_case : Above m u v ⊎ (((u ≡ pos 0) × (v ≡ pos 0)) ⊎ Above m (neg_ℤ u) (neg_ℤ v)) → surd_sign m u v ≡ int_cmp s (pos 0)
      at_case (inl a) = sign-above m m_pos no_root u v a ∙ above_zero s (f a)
      at_case (inr (inl z)) = ap₂ (surd_sign m) z.0 z.1 ∙ ap (λ x. int_cmp x (pos 0)) (sym (h z.0 z.1))
      at_case (inr (inr a)) =
          reversed_greater (surd_sign m u v) (sym (surd-neg m m_pos no_root u v) ∙ sign-above m m_pos no_root (neg_ℤ u) (neg_ℤ v) a)
          ∙ below_zero s (g a)

-- ---- u|u|, which lies between -u² and u²
abbrev pub signed_square : ℤ → ℤ
signed_square u = u *ℤ pos (unsigned_abs u)

square_up : (u : ℤ) → pos 0 ≤ℤ u → signed_square u ≡ u *ℤ u
square_up u h = ap (λ x. u *ℤ x) (at_least u h)
  where
    at_least : (u : ℤ) → pos 0 ≤ℤ u → pos (unsigned_abs u) ≡ u
    at_least u h = omega (arith, ints)

square_neg : (u : ℤ) → signed_square (neg_ℤ u) ≡ neg_ℤ (signed_square u)
square_neg u = ap (λ x. neg_ℤ u *ℤ x) (same u) ∙ solve integers integers_laws 2 (λ u w. (neg u ⊗ w, neg (u ⊗ w))) refl u (pos (unsigned_abs u))
  where
    same : (u : ℤ) → pos (unsigned_abs (neg_ℤ u)) ≡ pos (unsigned_abs u)
    same u = omega (arith, ints)

square_at_most : (u : ℤ) → neg_ℤ (u *ℤ u) ≤ℤ signed_square u
square_at_most (pos n) = omega (arith, ints)
square_at_most (negsuc n) = omega (arith, ints)

abbrev pub by_squares : ℤ → ℤ → ℤ → ℤ
by_squares m u v = signed_square u +ℤ m *ℤ signed_square v

squares_neg : (m u v : ℤ) → by_squares m (neg_ℤ u) (neg_ℤ v) ≡ neg_ℤ (by_squares m u v)
squares_neg m u v =
    ap₂ (λ x y. x +ℤ m *ℤ y) (square_neg u) (square_neg v)
    ∙ solve integers integers_laws 3 (λ m x y. (neg x ⊕ m ⊗ neg y, neg (x ⊕ m ⊗ y))) refl m (signed_square u) (signed_square v)

squares_zero : (m u v : ℤ) → u ≡ pos 0 → v ≡ pos 0 → by_squares m u v ≡ pos 0
squares_zero m u v e f =
    ap₂ (by_squares m) e f
    ∙ solve integers integers_laws 1 (λ m. (con (pos 0) ⊗ con (pos 0) ⊕ m ⊗ (con (pos 0) ⊗ con (pos 0)), con (pos 0))) refl m

negative-of : (s t : ℤ) → t ≡ neg_ℤ s → pos 0 <ℤ t → s <ℤ pos 0
negative-of s t e h = omega (arith, ints)

module _ (m : ℤ) (m_pos : pos 0 <ℤ m) where
  squares-above : (u v : ℤ) → Above m u v → pos 0 <ℤ by_squares m u v
  squares-above u v (inl p) =
      let a : pos 0 <ℤ u = p.above in
      let b : (m *ℤ (v *ℤ v)) <ℤ (u *ℤ u) = p.larger in
      let e : signed_square u ≡ u *ℤ u = square_up u (omega (arith, ints)) in
      let l = square_at_most v in
      let f : pos 0 ≤ℤ (m *ℤ (signed_square v +ℤ v *ℤ v)) = mul_at_least m (signed_square v +ℤ v *ℤ v) (omega (arith, ints)) (omega (arith, ints)) in
      let g : m *ℤ (signed_square v +ℤ v *ℤ v) ≡ m *ℤ signed_square v +ℤ m *ℤ (v *ℤ v) = solve integers
      integers_laws 3 (λ m x y. (m ⊗ (x ⊕ y), m ⊗ x ⊕ m ⊗ y)) refl m (signed_square v) (v *ℤ v) in
      joined (signed_square u) (m *ℤ signed_square v) (u *ℤ u) (m *ℤ (v *ℤ v)) (m *ℤ (signed_square v +ℤ v *ℤ v)) b e f g
    where
      joined : (x y s t z : ℤ) → t <ℤ s → x ≡ s → pos 0 ≤ℤ z → z ≡ y +ℤ t → pos 0 <ℤ (x +ℤ y)
      joined x y s t z b e f g = omega (arith, ints)
  squares-above u v (inr p) =
      let a : pos 0 <ℤ v = p.above in
      let b : (u *ℤ u) <ℤ (m *ℤ (v *ℤ v)) = p.larger in
      let e : m *ℤ signed_square v ≡ m *ℤ (v *ℤ v) = ap (λ x. m *ℤ x) (square_up v (omega (arith, ints))) in
      joined (signed_square u) (m *ℤ signed_square v) (u *ℤ u) (m *ℤ (v *ℤ v)) b e (square_at_most u)
    where
      joined : (x y s t : ℤ) → s <ℤ t → y ≡ t → neg_ℤ s ≤ℤ x → pos 0 <ℤ (x +ℤ y)
      joined x y s t b e l = omega (arith, ints)

  pub sign-by_squares : (no_root : NoRoot m) (u v : ℤ) → surd_sign m u v ≡ int_cmp (by_squares m u v) (pos 0)
  sign-by_squares no_root u v =
      sign-of_witness m m_pos no_root u v (by_squares m u v) (squares-above u v)
      (λ a. negative-of (by_squares m u v) (by_squares m (neg_ℤ u) (neg_ℤ v)) (squares_neg m u v) (squares-above (neg_ℤ u) (neg_ℤ v) a))
      (squares_zero m u v)

-- ---- qu + pv, where p² is m q² + e, and e v² is less than q²
pub record IsNear (m p q e v : ℤ) : Type 0 where
  pub p_pos : pos 0 <ℤ p
  pub q_pos : pos 0 <ℤ q
  pub square : p *ℤ p ≡ m *ℤ (q *ℤ q) +ℤ e
  pub below : (e *ℤ (v *ℤ v)) <ℤ (q *ℤ q)
  pub above : neg_ℤ (q *ℤ q) <ℤ (e *ℤ (v *ℤ v))

-- (qu)² - (pv)² is q² (u² - m v²) - e v²
squares_apart : (m p q e u v : ℤ) → p *ℤ p ≡ m *ℤ (q *ℤ q) +ℤ e
    → (q *ℤ u) *ℤ (q *ℤ u) -ℤ (p *ℤ v) *ℤ (p *ℤ v) ≡ (q *ℤ q) *ℤ (u *ℤ u -ℤ m *ℤ (v *ℤ v)) -ℤ e *ℤ (v *ℤ v)
squares_apart m p q e u v f =
    solve integers integers_laws 4 (λ p q u v. ((q ⊗ u) ⊗ (q ⊗ u) ⊖ (p ⊗ v) ⊗ (p ⊗ v), (q ⊗ q) ⊗ (u ⊗ u) ⊖ (p ⊗ p) ⊗ (v ⊗ v))) refl p q u v
    ∙ ap (λ x. (q *ℤ q) *ℤ (u *ℤ u) -ℤ x *ℤ (v *ℤ v)) f
    ∙ solve integers integers_laws 5 (λ m q e u v.
    ((q ⊗ q) ⊗ (u ⊗ u) ⊖ (m ⊗ (q ⊗ q) ⊕ e) ⊗ (v ⊗ v), (q ⊗ q) ⊗ (u ⊗ u ⊖ m ⊗ (v ⊗ v)) ⊖ e ⊗ (v ⊗ v))) refl
    m q e u v

-- a whole number above 0 is at least 1, so its product with q² is at least q²
at_least_once : (s d : ℤ) → pos 0 ≤ℤ s → pos 0 <ℤ d → s ≤ℤ (s *ℤ d)
at_least_once s d f g =
    let h : pos 0 ≤ℤ (s *ℤ (d -ℤ pos 1)) = mul_at_least s (d -ℤ pos 1) f (omega (arith, ints)) in
    let e : s *ℤ (d -ℤ pos 1) ≡ s *ℤ d -ℤ s = solve integers integers_laws 2 (λ s d. (s ⊗ (d ⊖ con (pos 1)), s ⊗ d ⊖ s)) refl s d in
    omega (arith, ints)

at_most_once : (s d : ℤ) → pos 0 ≤ℤ s → d <ℤ pos 0 → (s *ℤ d) ≤ℤ neg_ℤ s
at_most_once s d f g =
    let h = at_least_once s (neg_ℤ d) f (omega (arith, ints)) in
    let e : s *ℤ neg_ℤ d ≡ neg_ℤ (s *ℤ d) = solve integers integers_laws 2 (λ s d. (s ⊗ neg d, neg (s ⊗ d))) refl s d in
    omega (arith, ints)

module _ (m p q e : ℤ) where
  near-above : (u v : ℤ) → IsNear m p q e v → Above m u v → pos 0 <ℤ (q *ℤ u +ℤ p *ℤ v)
  near-above u v n (inl a) =
      (dominates (q *ℤ u) (p *ℤ v) (mul_pos q u n.q_pos a.above)
      (joined _ _ _ _ _ (squares_apart m p q e u v n.square) (at_least_once (q *ℤ q) _ (square_at_least q) (apart _ _ a.larger)) n.below)).0
    where
      apart : (x y : ℤ) → x <ℤ y → pos 0 <ℤ (y -ℤ x)
      apart x y h = omega (arith, ints)

      joined : (x y z s t : ℤ) → x -ℤ y ≡ z -ℤ t → s ≤ℤ z → t <ℤ s → y <ℤ x
      joined x y z s t f g h = omega (arith, ints)
  near-above u v n (inr a) =
      swapped (p *ℤ v) (q *ℤ u)
      (dominates (p *ℤ v) (q *ℤ u) (mul_pos p v n.p_pos a.above)
      (joined _ _ _ _ _ (squares_apart m p q e u v n.square) (at_most_once (q *ℤ q) _ (square_at_least q) (apart _ _ a.larger)) n.above)).0
    where
      apart : (x y : ℤ) → x <ℤ y → (x -ℤ y) <ℤ pos 0
      apart x y h = omega (arith, ints)

      joined : (x y z s t : ℤ) → x -ℤ y ≡ z -ℤ t → z ≤ℤ neg_ℤ s → neg_ℤ s <ℤ t → x <ℤ y
      joined x y z s t f g h = omega (arith, ints)

      swapped : (x y : ℤ) → pos 0 <ℤ (x +ℤ y) → pos 0 <ℤ (y +ℤ x)
      swapped x y h = omega (arith, ints)

  near_neg : (v : ℤ) → IsNear m p q e v → IsNear m p q e (neg_ℤ v)
  near_neg v n =
      let f : v *ℤ v ≡ neg_ℤ v *ℤ neg_ℤ v = solve integers integers_laws 1 (λ v. (v ⊗ v, neg v ⊗ neg v)) refl v in
      record {
        p_pos = n.p_pos;
        q_pos = n.q_pos;
        square = n.square;
        below = subst (λ x. (e *ℤ x) <ℤ (q *ℤ q)) f n.below;
        above = subst (λ x. neg_ℤ (q *ℤ q) <ℤ (e *ℤ x)) f n.above;
      }

  pub sign-by_near : (m_pos : pos 0 <ℤ m) (no_root : NoRoot m) (u v : ℤ) → IsNear m p q e v → surd_sign m u v ≡ int_cmp (q *ℤ u +ℤ p *ℤ v) (pos 0)
  sign-by_near m_pos no_root u v n =
      sign-of_witness m m_pos no_root u v (q *ℤ u +ℤ p *ℤ v) (near-above u v n)
      (λ a. negative-of (q *ℤ u +ℤ p *ℤ v) (q *ℤ neg_ℤ u +ℤ p *ℤ neg_ℤ v)
      (solve integers integers_laws 4 (λ p q u v. (q ⊗ neg u ⊕ p ⊗ neg v, neg (q ⊗ u ⊕ p ⊗ v))) refl p q u
      v) (near-above (neg_ℤ u) (neg_ℤ v) (near_neg v n) a))
      (λ f g. ap₂ (λ x y. q *ℤ x +ℤ p *ℤ y) f g ∙ solve integers integers_laws 2 (λ p q. (q ⊗ con (pos 0) ⊕ p ⊗ con (pos 0), con (pos 0))) refl p q)
