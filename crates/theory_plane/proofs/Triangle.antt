-- A triangle that turns left has count 0 or 1 at each point.
use Rattle.std.proofs.Common.{◌≡◌, ◌⊎◌, inl, inr, ℕ, zero, suc, List, [], ◌∷◌, ℤ, pos, ◌+ℤ◌, refl, sym, ap, ◌∙◌, subst, Bool, true, false, Ordering, Less, Equal, Greater, arith}
use Rattle.std.proofs.lemmas.Int.{ints}
use Rattle.std.specs.Ordering.{ordering_reverse, is_gt}
use Rattle.theory_ring.specs.Ring.{Ops, Laws, difference}
use Rattle.theory_ring.specs.Sign.{Signed, OrderLaws}
use Rattle.theory_ring.specs.Sign.{IsPositive, IsNonNegative}
use Rattle.theory_plane.specs.Plane.{PlanePoint, TestPoint, IsTestPoint, side, orientation}
use Rattle.theory_plane.specs.Crossing.{crossing, crossing_of, count}
use Rattle.theory_plane.specs.Triangle.{Triangle, corners, turns_left}
use Rattle.theory_ring.proofs.Normaliser.{var, con, neg, exprs, ring, ◌⊕◌, ◌⊖◌, ◌⊗◌}
use Rattle.theory_ring.proofs.Signs.{pos_nonneg, not_pos, less_neg, pos_add_nonneg, nonneg_add, nonneg_mul}
use Rattle.theory_plane.proofs.Crossing.{above, A, B, C, P, these}

-- the crossings of a→b, b→c and c→a
abbrev pub edge_sum : (S : Signed) → PlanePoint S.ops.carrier → PlanePoint S.ops.carrier → PlanePoint S.ops.carrier → TestPoint S.ops.carrier → ℤ
edge_sum S a b c p = crossing S a b p +ℤ crossing S b c p +ℤ crossing S c a p

pub count-edge_sum : (S : Signed) (t : Triangle (PlanePoint S.ops.carrier)) (p : TestPoint S.ops.carrier)
    → count S (corners t) p ≡ edge_sum S t.a t.b t.c p
count-edge_sum S t p = regroup (crossing S t.a t.b p) (crossing S t.b t.c p) (crossing S t.c t.a p)
  where
    regroup : (x y z : ℤ) → x +ℤ (y +ℤ z) ≡ (x +ℤ y) +ℤ z
    regroup x y z = omega (arith, ints)

abbrev pub Good : ℤ → Type 0
Good z = (z ≡ pos 0) ⊎ (z ≡ pos 1)

up_down : (e f : Ordering) → (f ≡ Less → e ≡ Greater) → Good (crossing_of false true e +ℤ crossing_of true false f)
up_down Greater Less h = inl refl
up_down Greater Equal h = inr refl
up_down Greater Greater h = inr refl
up_down Equal Less h = absurd (cc (h refl))
up_down Equal Equal h = inl refl
up_down Equal Greater h = inl refl
up_down Less Less h = absurd (cc (h refl))
up_down Less Equal h = inl refl
up_down Less Greater h = inl refl

module _ (S : Signed) (L : Laws S.ops) (O : OrderLaws S) where
  abbrev R : Ops
  R = S.ops

  pub not_both : (x : R.carrier) → IsPositive S x → IsPositive S (R.neg x) → ⊥
  not_both x p q = cc (sym q ∙ O.sign-neg x ∙ ap ordering_reverse p)

  zero_not : (x : R.carrier) → x ≡ R.int (pos 0) → IsPositive S x → ⊥
  zero_not x e p = cc (sym p ∙ ap S.sign e ∙ O.zero_equal)

  -- a number that isn't positive, from the refutation
  not_positive : (x : R.carrier) → (IsPositive S x → ⊥) → IsNonNegative S (R.neg x)
  not_positive x h = at_sign (S.sign x) refl
    where
      at_sign : (o : Ordering) → S.sign x ≡ o → IsNonNegative S (R.neg x)
      at_sign Less e = not_pos S L O x (ap is_gt e)
      at_sign Equal e = not_pos S L O x (ap is_gt e)
      at_sign Greater e = absurd (h e)

  module _ (s1 s2 s3 α β γ t : R.carrier) (whole : R.add (R.add s1 s2) s3 ≡ t)
      (level : R.add (R.add (R.mul s2 α) (R.mul s3 β)) (R.mul s1 γ) ≡ R.int (pos 0)) (t_pos : IsPositive S t)
    where
      abbrev all : List R.carrier
      all = s1 ∷ (s2 ∷ (s3 ∷ (α ∷ (β ∷ (γ ∷ [])))))

      all_right : IsPositive S (R.neg s3) → IsNonNegative S (R.neg s1) → IsNonNegative S (R.neg s2) → ⊥
      all_right h k l =
          not_both t t_pos (ap S.sign (ap R.neg (sym whole)
          ∙ ring R L all (neg (var 0 ⊕ var 1 ⊕ var 2)) (neg (var 2) ⊕ (neg (var 0) ⊕ neg (var 1))) refl)
          ∙ pos_add_nonneg S L O (R.neg s3) (R.add (R.neg s1) (R.neg s2)) h (nonneg_add S L O (R.neg s1) (R.neg s2) k l))

      -- two vertices not above, the third above
      pub bad_one : IsNonNegative S (R.neg α) → IsNonNegative S (R.neg β) → IsPositive S γ → IsPositive S (R.neg s3) → IsNonNegative S (R.neg s2) → ⊥
      bad_one f g h k l =
          all_right k (not_positive s1 (λ q.
          zero_not _ level (ap S.sign (ring R L all (var 1 ⊗ var 3 ⊕ var 2 ⊗ var 4 ⊕ var 0 ⊗ var 5)
          (var 0 ⊗ var 5 ⊕ (neg (var 1) ⊗ neg (var 3) ⊕ neg (var 2) ⊗ neg (var 4))) refl)
          ∙ pos_add_nonneg S L O (R.mul s1 γ) (R.add (R.mul (R.neg s2) (R.neg α)) (R.mul (R.neg s3) (R.neg β))) (O.sign-mul s1 γ q h)
          (nonneg_add S L O (R.mul (R.neg s2) (R.neg α)) (R.mul (R.neg s3) (R.neg β))
          (nonneg_mul S L O (R.neg s2) (R.neg α) l f)
          (nonneg_mul S L O (R.neg s3) (R.neg β) (pos_nonneg S L O (R.neg s3) k) g))))) l

      -- one vertex not above, the others above
      pub bad_two : IsNonNegative S (R.neg α) → IsPositive S β → IsPositive S γ → IsPositive S (R.neg s3) → IsNonNegative S (R.neg s1) → ⊥
      bad_two f g h k l =
          all_right k l (not_positive s2 (λ q.
          zero_not (R.neg (R.add (R.add (R.mul s2 α) (R.mul s3 β)) (R.mul s1 γ)))
          (ap R.neg level ∙ ring R L [] (neg (con (pos 0))) (con (pos 0)) refl)
          (ap S.sign (ring R L all (neg (var 1 ⊗ var 3 ⊕ var 2 ⊗ var 4 ⊕ var 0 ⊗ var 5))
          (neg (var 2) ⊗ var 4 ⊕ (var 1 ⊗ neg (var 3) ⊕ neg (var 0) ⊗ var 5)) refl)
          ∙ pos_add_nonneg S L O (R.mul (R.neg s3) β) (R.add (R.mul s2 (R.neg α)) (R.mul (R.neg s1) γ)) (O.sign-mul (R.neg s3) β k g)
          (nonneg_add S L O (R.mul s2 (R.neg α)) (R.mul (R.neg s1) γ)
          (nonneg_mul S L O s2 (R.neg α) (pos_nonneg S L O s2 q) f)
          (nonneg_mul S L O (R.neg s1) γ l (pos_nonneg S L O γ h))))))

  pub sum_is : (a b c : PlanePoint R.carrier) (p : TestPoint R.carrier)
      → R.add (R.add (side R a b p) (side R b c p)) (side R c a p) ≡ R.mul p.d (orientation R a b c)
  sum_is a b c p = ring R L (these S L O a b c p) (side exprs A B P ⊕ side exprs B C P ⊕ side exprs C A P) (var 8 ⊗ orientation exprs A B C) refl

  pub level_is : (a b c : PlanePoint R.carrier) (p : TestPoint R.carrier)
      → R.add (R.add (R.mul (side R b c p) (difference R (R.mul p.d a.y) p.y))
      (R.mul (side R c a p) (difference R (R.mul p.d b.y) p.y)))
      (R.mul (side R a b p) (difference R (R.mul p.d c.y) p.y)) ≡ R.int (pos 0)
  level_is a b c p =
      ring R L (these S L O a b c p)
      (side exprs B C P ⊗ (var 8 ⊗ var 1 ⊖ var 7) ⊕ side exprs C A P ⊗ (var 8 ⊗ var 3 ⊖ var 7) ⊕ side exprs A
      B P ⊗ (var 8 ⊗ var 5 ⊖ var 7)) (con (pos 0)) refl

  pub turn_rotated : (a b c : PlanePoint R.carrier) (p : TestPoint R.carrier) → orientation R b c a ≡ orientation R a b c
  turn_rotated a b c p = ring R L (these S L O a b c p) (orientation exprs B C A) (orientation exprs A B C) refl

  pub is_greater : (o : Ordering) → is_gt o ≡ true → o ≡ Greater
  is_greater Less e = absurd (cc e)
  is_greater Equal e = absurd (cc e)
  is_greater Greater e = refl

  or_greater : (o : Ordering) → (is_gt o ≡ false → ⊥) → o ≡ Greater
  or_greater Less h = absurd (h refl)
  or_greater Equal h = absurd (h refl)
  or_greater Greater h = refl

  module _ (a b c : PlanePoint R.carrier) (p : TestPoint R.carrier) (d_pos : IsPositive S p.d) (left : IsPositive S (orientation R a b c)) where
    t_pos : IsPositive S (R.mul p.d (orientation R a b c))
    t_pos = O.sign-mul p.d (orientation R a b c) d_pos left

    -- c alone is above
    one_above : above S L O a p ≡ false → above S L O b p ≡ false → above S L O c p ≡ true
        → Good (crossing_of false true (S.sign (side R b c p)) +ℤ crossing_of true false
        (S.sign (side R c a p)))
    one_above f g h =
        up_down (S.sign (side R b c p)) (S.sign (side R c a p)) (λ e. or_greater _ (λ k.
        bad_one (side R a b p) (side R b c p) (side R c a p) (difference R (R.mul p.d a.y) p.y)
        (difference R (R.mul p.d b.y) p.y) (difference R (R.mul p.d c.y) p.y)
        (R.mul p.d (orientation R a b c))
        (sum_is a b c p) (level_is a b c p) t_pos (not_pos S L O _ f) (not_pos S L O _ g) (is_greater _ h) (less_neg S L O _ e) (not_pos S L O _ k)))

    -- a alone isn't above
    two_above : above S L O a p ≡ false → above S L O b p ≡ true → above S L O c p ≡ true
        → Good (crossing_of false true (S.sign (side R a b p)) +ℤ crossing_of true false
        (S.sign (side R c a p)))
    two_above f g h =
        up_down (S.sign (side R a b p)) (S.sign (side R c a p)) (λ e. or_greater _ (λ k.
        bad_two (side R a b p) (side R b c p) (side R c a p) (difference R (R.mul p.d a.y) p.y)
        (difference R (R.mul p.d b.y) p.y) (difference R (R.mul p.d c.y) p.y)
        (R.mul p.d (orientation R a b c))
        (sum_is a b c p) (level_is a b c p) t_pos (not_pos S L O _ f) (is_greater _ g) (is_greater _ h) (less_neg S L O _ e) (not_pos S L O _ k)))

  pub three_terms : (x y z : ℤ) → (x +ℤ y ≡ (pos 0 +ℤ x) +ℤ y) × (x +ℤ y ≡ (x +ℤ pos 0) +ℤ y)
      × (x +ℤ y ≡ (y +ℤ pos 0) +ℤ x) × (x +ℤ y ≡ (x +ℤ y) +ℤ pos 0) × (x +ℤ y ≡ (y +ℤ x) +ℤ pos 0)
      × (x +ℤ y ≡ (pos 0 +ℤ y) +ℤ x)
  three_terms x y z = (omega (arith, ints), omega (arith, ints), omega (arith, ints), omega (arith, ints), omega (arith, ints), omega (arith, ints))

  module _ (a b c : PlanePoint R.carrier) (p : TestPoint R.carrier) (d_pos : IsPositive S p.d) (left : IsPositive S (orientation R a b c)) where
    left_b : IsPositive S (orientation R b c a)
    left_b = ap S.sign (turn_rotated a b c p) ∙ left

    left_c : IsPositive S (orientation R c a b)
    left_c = ap S.sign (turn_rotated b c a p) ∙ left_b

    abbrev up : PlanePoint R.carrier → PlanePoint R.carrier → ℤ
    up u v = crossing_of false true (S.sign (side R u v p))

    abbrev down : PlanePoint R.carrier → PlanePoint R.carrier → ℤ
    down u v = crossing_of true false (S.sign (side R u v p))

    at_heights : (x y z : Bool) → above S L O a p ≡ x → above S L O b p ≡ y → above S L O c p ≡ z
        → Good (crossing_of x y (S.sign (side R a b p)) +ℤ crossing_of y z (S.sign (side R b c p)) +ℤ crossing_of z x (S.sign (side R c a p)))
    at_heights true true true f g h = inl refl
    at_heights false false false f g h = inl refl
    at_heights false false true f g h = subst Good (three_terms (up b c) (down c a) (pos 0)).0 (one_above a b c p d_pos left f g h)
    at_heights true false false f g h = subst Good (three_terms (up c a) (down a b) (pos 0)).2 (one_above b c a p d_pos left_b g h f)
    at_heights false true false f g h = subst Good (three_terms (up a b) (down b c) (pos 0)).3 (one_above c a b p d_pos left_c h f g)
    at_heights false true true f g h = subst Good (three_terms (up a b) (down c a) (pos 0)).1 (two_above a b c p d_pos left f g h)
    at_heights true false true f g h = subst Good (three_terms (up b c) (down a b) (pos 0)).4 (two_above b c a p d_pos left_b g h f)
    at_heights true true false f g h = subst Good (three_terms (up c a) (down b c) (pos 0)).5 (two_above c a b p d_pos left_c h f g)

    pub good_sum : Good (edge_sum S a b c p)
    good_sum = at_heights (above S L O a p) (above S L O b p) (above S L O c p) refl refl refl

  -- a test point's denominator is positive
  pub denominator_pos : (p : TestPoint R.carrier) → IsTestPoint S p → IsPositive S p.d
  denominator_pos p h = ap S.sign h.1 ∙ whole_pos h.0
    where
      next : (n : ℕ) → pos (suc (suc n)) ≡ pos 1 +ℤ pos (suc n)
      next n = omega (arith, ints)

      whole_pos : (n : ℕ) → IsPositive S (R.int (pos (suc n)))
      whole_pos zero = O.one_greater
      whole_pos (suc n) = ap S.sign (ap R.int (next n) ∙ L.int_add (pos 1) (pos (suc n)))
          ∙ O.sign-add (R.int (pos 1)) (R.int (pos (suc n))) O.one_greater (whole_pos n)

  pub triangle-good : (t : Triangle (PlanePoint R.carrier)) (p : TestPoint R.carrier) → IsPositive S p.d
      → turns_left S t ≡ true → Good (count S (corners t) p)
  triangle-good t p h e = subst Good (sym (count-edge_sum S t p)) (good_sum t.a t.b t.c p h (is_greater _ e))
