-- A test point close to the middle of an edge, on its right.
use Rattle.std.proofs.Common.{◌≡◌, ◌⊎◌, inl, inr, ℕ, zero, suc, ◌+◌, [], ◌∷◌, ℤ, pos, negsuc, ◌+ℤ◌, ◌*ℤ◌, ◌<ℤ◌, sym, ap, ap₂, subst, ◌∙◌, refl, true, Ordering, Less, Equal, Greater, arith}
use Rattle.std.specs.Ordering.{ordering_reverse, is_lt, is_gt}
use Rattle.std.proofs.lemmas.Int.{ints}
use Rattle.std.proofs.lemmas.Bool.{and_from}
use Rattle.theory_ring.specs.Ring.{Ops, Laws, difference}
use Rattle.theory_ring.specs.Sign.{Signed, OrderLaws, Passes}
use Rattle.theory_ring.proofs.Normaliser.{var, con, neg, ring, equal_of_diff, ◌⊕◌, ◌⊖◌, ◌⊗◌}
use Rattle.theory_ring.specs.Sign.{IsPositive, IsNonNegative}
use Rattle.theory_plane.specs.Plane.{PlanePoint, TestPoint, side}
use Rattle.theory_plane.specs.Close.{is_right_of_edge, is_near, HasPointRight, PointsRight}
use Rattle.theory_ring.proofs.Signs.{zero_nonneg, less_neg, pos_add_nonneg}
use Rattle.theory_plane.proofs.BoxPoints.{whole_positive}

module _ (S : Signed) (L : Laws S.ops) (O : OrderLaws S) where
  abbrev R : Ops
  R = S.ops

  -- ---- a whole number above the absolute value of a number
  -- k is above r and above -r
  record IsAbove (k r : R.carrier) : Type 0 where
    over : IsPositive S (difference R k r)
    under : IsPositive S (R.add k r)

  as_suc : (k : ℤ) → pos 0 <ℤ k → (n : ℕ) × (k ≡ pos (suc n))
  as_suc (pos zero) h = absurd (omega (arith, ints))
  as_suc (pos (suc n)) h = (n, refl)
  as_suc (negsuc n) h = absurd (omega (arith, ints))

  passed : (r : R.carrier) → (n : ℕ) × IsPositive S (difference R (R.int (pos (suc n))) r)
  passed r =
      let p : Passes S (R.int (pos 1)) r = O.passes (R.int (pos 1)) r O.one_greater in
      let m : (n : ℕ) × (p.0 ≡ pos (suc n)) = as_suc p.0 p.1 in
      (m.0, ap S.sign (ap (λ k. difference R (R.int k) r) (sym m.1) ∙ ap (λ z. difference R z r) (sym (L.mul_one (R.int p.0)))) ∙ p.2)

  above_both : (k j r : R.carrier) → IsPositive S k → IsPositive S j → IsPositive S (difference R k r)
      → IsPositive S (difference R j (R.neg r)) → IsAbove (R.add k j) r
  above_both k j r k_pos j_pos p q = record {
    over = ap S.sign (ring R L (k ∷ (j ∷ (r ∷ []))) ((var 0 ⊕ var 1) ⊖ var 2) ((var 0 ⊖ var 2) ⊕ var 1) refl) ∙ O.sign-add _ _ p j_pos;
    under = ap S.sign (ring R L (k ∷ (j ∷ (r ∷ []))) ((var 0 ⊕ var 1) ⊕ var 2) ((var 1 ⊖ neg (var 2)) ⊕ var 0) refl) ∙ O.sign-add _ _ q k_pos;
  }

  above_more : (k j r : R.carrier) → IsPositive S j → IsAbove k r → IsAbove (R.add k j) r
  above_more k j r j_pos h = record {
    over = ap S.sign (ring R L (k ∷ (j ∷ (r ∷ []))) ((var 0 ⊕ var 1) ⊖ var 2) ((var 0 ⊖ var 2) ⊕ var 1) refl) ∙ O.sign-add _ _ h.over j_pos;
    under = ap S.sign (ring R L (k ∷ (j ∷ (r ∷ []))) ((var 0 ⊕ var 1) ⊕ var 2) ((var 0 ⊕ var 2) ⊕ var 1) refl) ∙ O.sign-add _ _ h.under j_pos;
  }

  -- a whole number, at least 1, above r, -r, s and -s
  record Bound (r s : R.carrier) : Type 0 where
    k : R.carrier
    n : ℕ
    k_is : k ≡ R.int (pos (suc n))
    of_r : IsAbove k r
    of_s : IsAbove k s

  bound : (r s : R.carrier) → Bound r s
  bound r s = join (passed r) (passed (R.neg r)) (passed s) (passed (R.neg s))
    where
      join : (n : ℕ) × IsPositive S (difference R (R.int (pos (suc n))) r) → (n : ℕ) × IsPositive S (difference R (R.int (pos (suc n))) (R.neg r))
          → (n : ℕ) × IsPositive S (difference R (R.int (pos (suc n))) s) → (n : ℕ)
          × IsPositive S (difference R (R.int (pos (suc n))) (R.neg s)) → Bound r s
      join a b c d =
          let a_pos = whole_positive S L O a.0 in
          let b_pos = whole_positive S L O b.0 in
          let c_pos = whole_positive S L O c.0 in
          let d_pos = whole_positive S L O d.0 in
          let first : R.carrier = R.add (R.int (pos (suc a.0))) (R.int (pos (suc b.0))) in
          let last : R.carrier = R.add (R.int (pos (suc c.0))) (R.int (pos (suc d.0))) in
          record {
            k = R.add first last;
            n = a.0 + b.0 + c.0 + d.0 + 3;
            k_is = sum_is a.0 b.0 c.0 d.0;
            of_r = above_more first last r (O.sign-add _ _ c_pos d_pos) (above_both _ _ r a_pos b_pos a.1 b.1);
            of_s = ap_above s (L.add_comm last first) (above_more last first s (O.sign-add _ _ a_pos b_pos) (above_both _ _ s c_pos d_pos c.1 d.1));
          }
        where
          ap_above : (s : R.carrier) {k j : R.carrier} → k ≡ j → IsAbove k s → IsAbove j s
          ap_above s e h = subst (λ k. IsAbove k s) e h

          sum_is : (a b c d : ℕ) → R.add (R.add (R.int (pos (suc a))) (R.int (pos (suc b))))
              (R.add (R.int (pos (suc c))) (R.int (pos (suc d)))) ≡ R.int (pos (suc (a + b + c + d + 3)))
          sum_is a b c d =
              let e : (pos (suc a) +ℤ pos (suc b)) +ℤ (pos (suc c) +ℤ pos (suc d)) ≡ pos (suc (a + b + c + d + 3)) = omega (arith, ints) in
              sym (L.int_add _ _ ∙ ap₂ R.add (L.int_add _ _) (L.int_add _ _)) ∙ ap R.int e

  -- ---- the sum of two squares
  square_cases : (x : R.carrier) → IsPositive S (R.mul x x) ⊎ (x ≡ R.int (pos 0))
  square_cases x = at_sign (S.sign x) refl
    where
      at_sign : (o : Ordering) → S.sign x ≡ o → IsPositive S (R.mul x x) ⊎ (x ≡ R.int (pos 0))
      at_sign Less e = inl (ap S.sign (ring R L (x ∷ []) (var 0 ⊗ var 0) (neg (var 0) ⊗ neg (var 0)) refl)
          ∙ O.sign-mul (R.neg x) (R.neg x) (less_neg S L O x e) (less_neg S L O x e))
      at_sign Equal e = inr (O.equal_zero x e)
      at_sign Greater e = inl (O.sign-mul x x e e)

  square_zero : (x : R.carrier) → x ≡ R.int (pos 0) → IsNonNegative S (R.mul x x)
  square_zero x e = zero_nonneg S L O (R.mul x x)
      (ap S.sign (ap (λ z. R.mul z z) e ∙ ring R L [] (con (pos 0) ⊗ con (pos 0)) (con (pos 0)) refl)
      ∙ O.zero_equal)

  squares : (a b : PlanePoint R.carrier) → R.carrier
  squares a b = R.add (R.mul (difference R b.x a.x) (difference R b.x a.x)) (R.mul (difference R b.y a.y) (difference R b.y a.y))

  squares_positive : (a b : PlanePoint R.carrier) → (¬ a ≡ b) → IsPositive S (squares a b)
  unfolding squares
  squares_positive a b apart = at_case (square_cases (difference R b.x a.x)) (square_cases (difference R b.y a.y))
    where
      same : difference R b.x a.x ≡ R.int (pos 0) → difference R b.y a.y ≡ R.int (pos 0) → a ≡ b
      same e f = λ i. record { x = sym (equal_of_diff R L b.x a.x e) i; y = sym (equal_of_diff R L b.y a.y f) i }

      at_case : IsPositive S (R.mul (difference R b.x a.x) (difference R b.x a.x)) ⊎ (difference R b.x a.x ≡ R.int (pos 0))
          → IsPositive S (R.mul (difference R b.y a.y) (difference R b.y a.y)) ⊎ (difference R b.y a.y ≡ R.int (pos 0)) → IsPositive S (squares a b)
      at_case (inl p) (inl q) = O.sign-add _ _ p q
      at_case (inl p) (inr f) = pos_add_nonneg S L O _ _ p (square_zero _ f)
      at_case (inr e) (inl q) = ap S.sign (L.add_comm _ _) ∙ pos_add_nonneg S L O _ _ q (square_zero _ e)
      at_case (inr e) (inr f) = absurd (apart (same e f))

  -- ---- the point (k(a + b) + (b - a turned to the right)) / 2k
  module _ (a b : PlanePoint R.carrier) (n : ℕ) (k : R.carrier) where
    abbrev point : TestPoint R.carrier
    point = record {
      x = R.add (R.mul k (R.add a.x b.x)) (difference R b.y a.y);
      y = difference R (R.mul k (R.add a.y b.y)) (difference R b.x a.x);
      d = R.mul (R.int (pos 2)) k;
    }

    side_is : side R a b point ≡ R.neg (squares a b)
    unfolding squares
    side_is = ring R L (a.x ∷ (a.y ∷ (b.x ∷ (b.y ∷ (k ∷ [])))))
        ((var 2 ⊖ var 0) ⊗ ((var 4 ⊗ (var 1 ⊕ var 3) ⊖ (var 2 ⊖ var 0)) ⊖ (con (pos 2) ⊗ var 4) ⊗ var 1)
        ⊖ (var 3 ⊖ var 1) ⊗ ((var 4 ⊗ (var 0 ⊕ var 2) ⊕ (var 3 ⊖ var 1)) ⊖ (con (pos 2) ⊗ var 4) ⊗ var 0))
        (neg ((var 2 ⊖ var 0) ⊗ (var 2 ⊖ var 0) ⊕ (var 3 ⊖ var 1) ⊗ (var 3 ⊖ var 1))) refl

    right : (¬ a ≡ b) → is_right_of_edge S a b point ≡ true
    right apart = ap is_lt (ap S.sign side_is ∙ O.sign-neg (squares a b) ∙ ap ordering_reverse (squares_positive a b apart))

    -- one coordinate, moved by r or by -r
    twice_positive : (x : R.carrier) → IsPositive S k → IsPositive S x → IsPositive S (R.mul (R.int (pos 2)) (R.add x k))
    twice_positive x p q = O.sign-mul (R.int (pos 2)) (R.add x k) (whole_positive S L O 1) (O.sign-add x k q p)

    near_plus : (u v r : R.carrier) → IsPositive S k → IsAbove k (R.mul (R.int (pos n)) r)
        → is_near S n u v (R.add (R.mul k (R.add u v)) r) (R.mul (R.int (pos 2)) k) ≡ true
    near_plus u v r k_pos h = and_from _ _
        (ap is_gt (ap S.sign (ring R L (k ∷ (u ∷ (v ∷ (r ∷ (R.int (pos n) ∷ [])))))
        (con (pos 2) ⊗ (con (pos 2) ⊗ var 0) ⊖ var 4 ⊗ (con (pos 2) ⊗ (var 0 ⊗ (var 1 ⊕ var 2) ⊕ var 3) ⊖ (con (pos 2) ⊗ var 0) ⊗ (var 1 ⊕ var 2)))
        (con (pos 2) ⊗ ((var 0 ⊖ var 4 ⊗ var 3) ⊕ var 0)) refl) ∙ twice_positive _ k_pos h.over))
        (ap is_gt (ap S.sign (ring R L (k ∷ (u ∷ (v ∷ (r ∷ (R.int (pos n) ∷ [])))))
        (con (pos 2) ⊗ (con (pos 2) ⊗ var 0) ⊖ neg
        (var 4 ⊗ (con (pos 2) ⊗ (var 0 ⊗ (var 1 ⊕ var 2) ⊕ var 3) ⊖ (con (pos 2) ⊗ var 0) ⊗
        (var 1 ⊕ var 2))))
        (con (pos 2) ⊗ ((var 0 ⊕ var 4 ⊗ var 3) ⊕ var 0)) refl) ∙ twice_positive _ k_pos h.under))

    near_minus : (u v r : R.carrier) → IsPositive S k → IsAbove k (R.mul (R.int (pos n)) r)
        → is_near S n u v (difference R (R.mul k (R.add u v)) r) (R.mul (R.int (pos 2)) k) ≡ true
    near_minus u v r k_pos h = near_plus u v (R.neg r) k_pos (record {
      over = ap S.sign (ring R L (k ∷ (r ∷ (R.int (pos n) ∷ []))) (var 0 ⊖ var 2 ⊗ neg (var 1)) (var 0 ⊕ var 2 ⊗ var 1) refl) ∙ h.under;
      under = ap S.sign (ring R L (k ∷ (r ∷ (R.int (pos n) ∷ []))) (var 0 ⊕ var 2 ⊗ neg (var 1)) (var 0 ⊖ var 2 ⊗ var 1) refl) ∙ h.over;
    })

  twice_whole : (k : R.carrier) (n : ℕ) → k ≡ R.int (pos (suc n)) → R.mul (R.int (pos 2)) k ≡ R.int (pos (suc (n + n + 1)))
  twice_whole k n e =
      let f : pos 2 *ℤ pos (suc n) ≡ pos (suc (n + n + 1)) = omega (arith, ints) in
      ap (R.mul (R.int (pos 2))) e ∙ sym (L.int_mul (pos 2) (pos (suc n))) ∙ ap R.int f

  -- for every edge with two different ends there is a test point as close to its middle as one likes, strictly right of it
  pub points_right : PointsRight S
  points_right a b apart n n_pos = at_bound (bound (R.mul (R.int (pos n)) (difference R b.x a.x)) (R.mul (R.int (pos n)) (difference R b.y a.y)))
    where
      at_bound : Bound (R.mul (R.int (pos n)) (difference R b.x a.x)) (R.mul (R.int (pos n)) (difference R b.y a.y)) → HasPointRight S a b n
      at_bound m =
          let k_pos : IsPositive S m.k = ap S.sign m.k_is ∙ whole_positive S L O m.n in (
            point a b n m.k,
            (m.n + m.n + 1, twice_whole m.k m.n m.k_is),
            right a b n m.k apart,
            and_from _ _ (near_plus a b n m.k a.x b.x (difference R b.y a.y) k_pos m.of_s)
                (near_minus a b n m.k a.y b.y (difference R b.x a.x) k_pos m.of_r),
          )
