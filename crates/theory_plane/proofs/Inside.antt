-- Two triangles that a line along an edge of one separates hold no point both.
use Rattle.std.proofs.Common.{◌≡◌, ◌⊎◌, inl, inr, List, [], ◌∷◌, ℤ, pos, negsuc, ◌+ℤ◌, refl, sym, ap, ◌∙◌, subst, Bool, true, false, Ordering, Less, Equal, Greater, is_lt, arith}
use Rattle.std.proofs.lemmas.Int.{ints}
use Rattle.std.specs.Ordering.{ordering_reverse}
use Rattle.theory_ring.specs.Ring.{Ops, Laws, difference}
use Rattle.theory_ring.specs.Sign.{Signed, OrderLaws}
use Rattle.theory_ring.specs.Sign.{IsPositive, IsNonNegative}
use Rattle.theory_plane.specs.Plane.{PlanePoint, TestPoint, side, orientation}
use Rattle.theory_plane.specs.Crossing.{crossing, crossing_of}
use Rattle.theory_ring.proofs.Normaliser.{Expr, var, con, neg, exprs, ring, ring_by, ring_from, ◌⊕◌, ◌⊖◌, ◌⊗◌}
use Rattle.theory_ring.proofs.Signs.{pos_nonneg, zero_nonneg, nonneg_cases, not_pos, pos_add_nonneg, nonneg_add, nonneg_mul, sign-scale, zero_factor, times_zero, zero_times}
use Rattle.theory_plane.proofs.Crossing.{above, A, B, C, P, these}
use Rattle.theory_plane.proofs.Triangle.{edge_sum, level_is, turn_rotated, is_greater, three_terms}

up_down_one : (e f : Ordering) → crossing_of false true e +ℤ crossing_of true false f ≡ pos 1 → (e ≡ Greater) × (is_lt f ≡ false)
up_down_one Greater Less h = absurd (cc h)
up_down_one Greater Equal h = (refl, refl)
up_down_one Greater Greater h = (refl, refl)
up_down_one Equal Less h = absurd (cc h)
up_down_one Equal Equal h = absurd (cc h)
up_down_one Equal Greater h = absurd (cc h)
up_down_one Less Less h = absurd (cc h)
up_down_one Less Equal h = absurd (cc h)
up_down_one Less Greater h = absurd (cc h)

module _ (S : Signed) (L : Laws S.ops) (O : OrderLaws S) where
  abbrev R : Ops
  R = S.ops

  abbrev zero_of : R.carrier
  zero_of = R.int (pos 0)

  -- not below 0 by the first that isn't 0
  pub record Lex (x y z : R.carrier) : Type 0 where
    pub first : IsNonNegative S x
    pub second : x ≡ zero_of → IsNonNegative S y
    pub third : x ≡ zero_of → y ≡ zero_of → IsNonNegative S z

  pub both_zero : (x y : R.carrier) → IsNonNegative S x → IsNonNegative S y → R.add x y ≡ zero_of → (x ≡ zero_of) × (y ≡ zero_of)
  both_zero x y h k e = at_case (nonneg_cases S L O x h) (nonneg_cases S L O y k)
    where
      at_case : IsPositive S x ⊎ (x ≡ zero_of) → IsPositive S y ⊎ (y ≡ zero_of) → (x ≡ zero_of) × (y ≡ zero_of)
      at_case (inr f) (inr g) = (f, g)
      at_case (inl p) g = absurd (cc (sym (pos_add_nonneg S L O x y p k) ∙ ap S.sign e ∙ O.zero_equal))
      at_case (inr f) (inl q) = absurd (cc (sym (pos_add_nonneg S L O y x q h) ∙ ap S.sign (L.add_comm y x ∙ e) ∙ O.zero_equal))

  lex-add : (x y z x' y' z' : R.carrier) → Lex x y z → Lex x' y' z' → Lex (R.add x x') (R.add y y') (R.add z z')
  lex-add x y z x' y' z' h k = record {
    first = nonneg_add S L O x x' h.first k.first;
    second = λ e. let f : (x ≡ zero_of) × (x' ≡ zero_of) = both_zero x x' h.first k.first e in nonneg_add S L O y y' (h.second f.0) (k.second f.1);
    third = λ e g.
        let f : (x ≡ zero_of) × (x' ≡ zero_of) = both_zero x x' h.first k.first e in
        let l : (y ≡ zero_of) × (y' ≡ zero_of) = both_zero y y' (h.second f.0) (k.second f.1) g in
        nonneg_add S L O z z' (h.third f.0 l.0) (k.third f.1 l.1);
  }

  zero_nn : IsNonNegative S zero_of
  zero_nn = zero_nonneg S L O zero_of O.zero_equal

  lex-scale : (k x y z : R.carrier) → IsNonNegative S k → Lex x y z → Lex (R.mul k x) (R.mul k y) (R.mul k z)
  lex-scale k x y z n h = at_case (nonneg_cases S L O k n)
    where
      at_case : IsPositive S k ⊎ (k ≡ zero_of) → Lex (R.mul k x) (R.mul k y) (R.mul k z)
      at_case (inl p) = record {
        first = nonneg_mul S L O k x n h.first;
        second = λ e. nonneg_mul S L O k y n (h.second (zero_factor S L O k x p e));
        third = λ e f. nonneg_mul S L O k z n (h.third (zero_factor S L O k x p e) (zero_factor S L O k y p f));
      }
      at_case (inr e) = record {
        first = subst (IsNonNegative S) (sym (ap (λ u. R.mul u x) e ∙ zero_times S L O x)) zero_nn;
        second = λ f. subst (IsNonNegative S) (sym (ap (λ u. R.mul u y) e ∙ zero_times S L O y)) zero_nn;
        third = λ f g. subst (IsNonNegative S) (sym (ap (λ u. R.mul u z) e ∙ zero_times S L O z)) zero_nn;
      }

  -- x isn't negative and neither is - t x
  squeezed_zero : (t x : R.carrier) → IsPositive S t → IsNonNegative S x → IsNonNegative S (R.neg (R.mul t x)) → x ≡ zero_of
  squeezed_zero t x p h k = at_case (nonneg_cases S L O x h)
    where
      at_case : IsPositive S x ⊎ (x ≡ zero_of) → x ≡ zero_of
      at_case (inr e) = e
      at_case (inl q) = absurd (cc (sym k ∙ ap is_lt (O.sign-neg (R.mul t x) ∙ ap ordering_reverse (O.sign-mul t x p q))))

  lex-zero : (t x y z : R.carrier) → IsPositive S t → Lex x y z
      → Lex (R.neg (R.mul t x)) (R.neg (R.mul t y)) (R.neg (R.mul t z)) → (x ≡ zero_of) × (y ≡ zero_of)
      × (z ≡ zero_of)
  lex-zero t x y z p h k =
      let e : x ≡ zero_of = squeezed_zero t x p h.first k.first in
      let f : y ≡ zero_of = squeezed_zero t y p (h.second e) (k.second (gone x e)) in
      let g : z ≡ zero_of = squeezed_zero t z p (h.third e f) (k.third (gone x e) (gone y f)) in
      (e, f, g)
    where
      gone : (x : R.carrier) → x ≡ zero_of → R.neg (R.mul t x) ≡ zero_of
      gone x e = ap (λ u. R.neg (R.mul t u)) e ∙ ring R L (t ∷ []) (neg (var 0 ⊗ con (pos 0))) (con (pos 0)) refl

  -- the point is on the left of a→b, or on it and below, to the right
  pub OnLeft : PlanePoint R.carrier → PlanePoint R.carrier → TestPoint R.carrier → Type 0
  OnLeft a b p = Lex (side R a b p) (difference R a.y b.y) (difference R b.x a.x)

  module _ (a b c : PlanePoint R.carrier) (p : TestPoint R.carrier) (d_pos : IsPositive S p.d) (left : IsPositive S (orientation R a b c)) where
    abbrev α : R.carrier
    α = difference R (R.mul p.d a.y) p.y

    abbrev β : R.carrier
    β = difference R (R.mul p.d b.y) p.y

    abbrev γ : R.carrier
    γ = difference R (R.mul p.d c.y) p.y

    by_d : (x y : R.carrier) → R.mul p.d x ≡ y → S.sign x ≡ S.sign y
    by_d x y e = sym (sign-scale S L O p.d x d_pos) ∙ ap S.sign e

    strictly : IsPositive S (side R a b p) → OnLeft a b p
    unfolding OnLeft
    strictly h = record { first = pos_nonneg S L O _ h; second = λ e. absurd (not_zero e); third = λ e f. absurd (not_zero e) }
      where
        not_zero : side R a b p ≡ zero_of → ⊥
        not_zero e = cc (sym h ∙ ap S.sign e ∙ O.zero_equal)

    -- a→b goes down
    downward : above S L O a p ≡ true → above S L O b p ≡ false → IsNonNegative S (side R a b p) → OnLeft a b p
    unfolding OnLeft
    downward f g h = record { first = h; second = λ e. pos_nonneg S L O _ falls; third = λ e k. absurd (cc (sym falls ∙ ap S.sign k ∙ O.zero_equal)) }
      where
        falls : IsPositive S (difference R a.y b.y)
        falls =
            by_d (difference R a.y b.y) (R.add α (R.neg β))
            (ring R L (these S L O a b c p) (P.d ⊗ (A.y ⊖ B.y))
            ((P.d ⊗ A.y ⊖ P.y) ⊕ neg (P.d ⊗ B.y ⊖ P.y)) refl)
            ∙ pos_add_nonneg S L O α (R.neg β) (is_greater S L O _ f) (not_pos S L O _ g)

    balance : R.mul γ (side R a b p) ≡ R.add (R.mul (side R b c p) (R.neg α)) (R.mul (side R c a p) (R.neg β))
    balance =
        ring_by R L (side R a b p ∷ (side R b c p ∷ (side R c a p ∷ (α ∷ (β ∷ (γ ∷ [])))))) (var 5 ⊗ var 0)
        (var 1 ⊗ neg (var 3) ⊕ var 2 ⊗ neg (var 4))
        (con (pos 1)) (var 1 ⊗ var 3 ⊕ var 2 ⊗ var 4 ⊕ var 0 ⊗ var 5) (con (pos 0)) (level_is S L O a b c p) refl

    -- c alone is above
    apex_above : above S L O a p ≡ false → above S L O b p ≡ false → above S L O c p ≡ true
        → IsPositive S (side R b c p) → IsNonNegative S (side R c a p) → OnLeft a b p
    unfolding OnLeft
    apex_above f g h s2 s3 = record {
      first = ap is_lt (sym (sign-scale S L O γ (side R a b p) γ_pos) ∙ ap S.sign balance) ∙ nonneg_add S L O _ _ one two;
      second = level;
      third = λ e k. pos_nonneg S L O _ (rightward e k);
    }
      where
        γ_pos : IsPositive S γ
        γ_pos = is_greater S L O _ h

        one : IsNonNegative S (R.mul (side R b c p) (R.neg α))
        one = nonneg_mul S L O _ _ (pos_nonneg S L O _ s2) (not_pos S L O _ f)

        two : IsNonNegative S (R.mul (side R c a p) (R.neg β))
        two = nonneg_mul S L O _ _ s3 (not_pos S L O _ g)

        a_level : side R a b p ≡ zero_of → R.neg α ≡ zero_of
        a_level e = zero_factor S L O (side R b c p) (R.neg α) s2 (both_zero _ _ one two (sym balance ∙ ap (R.mul γ) e ∙ times_zero S L O γ)).0

        level : side R a b p ≡ zero_of → IsNonNegative S (difference R a.y b.y)
        level e =
            ap is_lt (by_d (difference R a.y b.y) (R.neg β)
            (ring_by R L (these S L O a b c p) (P.d ⊗ (A.y ⊖ B.y)) (neg (P.d ⊗ B.y ⊖ P.y)) (con (negsuc 0))
            (neg (P.d ⊗ A.y ⊖ P.y)) (con (pos 0)) (a_level e) refl))
            ∙ not_pos S L O _ g

        rises : side R a b p ≡ zero_of → IsPositive S (difference R c.y a.y)
        rises e =
            by_d (difference R c.y a.y) γ (ring_by R L (these S L O a b c p) (P.d ⊗ (C.y ⊖ A.y))
            (P.d ⊗ C.y ⊖ P.y) (con (pos 1)) (neg (P.d ⊗ A.y ⊖ P.y)) (con (pos 0)) (a_level e) refl)
            ∙ γ_pos

        rightward : side R a b p ≡ zero_of → difference R a.y b.y ≡ zero_of → IsPositive S (difference R b.x a.x)
        rightward e k =
            sym (sign-scale S L O (difference R c.y a.y) (difference R b.x a.x) (rises e))
            ∙ ap S.sign (ring_by R L (these S L O a b c p) ((C.y ⊖ A.y) ⊗ (B.x ⊖ A.x))
            (orientation exprs A B C) (neg (C.x ⊖ A.x)) (A.y ⊖ B.y) (con (pos 0)) k refl)
            ∙ left

    -- c alone isn't above
    apex_below : above S L O a p ≡ true → above S L O b p ≡ true → above S L O c p ≡ false
        → IsNonNegative S (side R b c p) → IsPositive S (side R c a p) → OnLeft a b p
    apex_below f g h s2 s3 = strictly (at_case (nonneg_cases S L O (R.neg γ) (not_pos S L O _ h)))
      where
        sum_pos : IsPositive S (R.mul (R.neg γ) (side R a b p))
        sum_pos =
            ap S.sign (ring_by R L (side R a b p ∷ (side R b c p ∷ (side R c a p ∷ (α ∷ (β ∷ (γ ∷ []))))))
            (neg (var 5) ⊗ var 0) (var 2 ⊗ var 4 ⊕ var 1 ⊗ var 3)
            (con (negsuc 0)) (var 1 ⊗ var 3 ⊕ var 2 ⊗ var 4 ⊕ var 0 ⊗ var 5) (con (pos 0)) (level_is S L O a b c p) refl)
            ∙ pos_add_nonneg S L O _ _ (O.sign-mul _ _ s3 (is_greater S L O _ g))
            (nonneg_mul S L O _ _ s2 (pos_nonneg S L O _ (is_greater S L O _ f)))

        at_case : IsPositive S (R.neg γ) ⊎ (R.neg γ ≡ zero_of) → IsPositive S (side R a b p)
        at_case (inl k) = sym (sign-scale S L O (R.neg γ) (side R a b p) k) ∙ sum_pos
        at_case (inr e) = absurd (cc (sym sum_pos ∙ ap S.sign (ap (λ u. R.mul u (side R a b p)) e ∙ zero_times S L O (side R a b p)) ∙ O.zero_equal))

    abbrev up : PlanePoint R.carrier → PlanePoint R.carrier → ℤ
    up u v = crossing_of false true (S.sign (side R u v p))

    abbrev down : PlanePoint R.carrier → PlanePoint R.carrier → ℤ
    down u v = crossing_of true false (S.sign (side R u v p))

    -- x goes up and y down
    first_up : (u v w : PlanePoint R.carrier) → up u v +ℤ down v w ≡ pos 1 → (S.sign (side R u v p) ≡ Greater)
        × (is_lt (S.sign (side R v w p)) ≡ false)
    first_up u v w e = up_down_one (S.sign (side R u v p)) (S.sign (side R v w p)) e

    at_heights : (x y z : Bool) → above S L O a p ≡ x → above S L O b p ≡ y → above S L O c p ≡ z
        → crossing_of x y (S.sign (side R a b p)) +ℤ crossing_of y z (S.sign (side R b c p)) +ℤ crossing_of z x (S.sign (side R c a p)) ≡ pos 1
        → OnLeft a b p
    at_heights true true true f g h e = absurd (cc e)
    at_heights false false false f g h e = absurd (cc e)
    at_heights false true false f g h e = strictly (first_up a b c ((three_terms S L O (up a b) (down b c) (pos 0)).3 ∙ e)).0
    at_heights false true true f g h e = strictly
        (up_down_one (S.sign (side R a b p)) (S.sign (side R c a p))
        ((three_terms S L O (up a b) (down c a) (pos 0)).1 ∙ e)).0
    at_heights true false false f g h e = downward f g (first_up c a b ((three_terms S L O (up c a) (down a b) (pos 0)).2 ∙ e)).1
    at_heights true false true f g h e = downward f g
        (up_down_one (S.sign (side R b c p)) (S.sign (side R a b p))
        ((three_terms S L O (up b c) (down a b) (pos 0)).4 ∙ e)).1
    at_heights false false true f g h e =
        let k : (S.sign (side R b c p) ≡ Greater)
        × (is_lt (S.sign (side R c a p)) ≡ false) = first_up b c a
        ((three_terms S L O (up b c) (down c a) (pos 0)).0 ∙ e) in apex_above f g h k.0 k.1
    at_heights true true false f g h e =
        let k : (S.sign (side R c a p) ≡ Greater)
        × (is_lt (S.sign (side R b c p)) ≡ false) = up_down_one (S.sign (side R c a p))
        (S.sign (side R b c p)) ((three_terms S L O (up c a) (down b c) (pos 0)).5 ∙ e) in apex_below f g
        h k.1 k.0

    pub on_left : edge_sum S a b c p ≡ pos 1 → OnLeft a b p
    on_left e = at_heights (above S L O a p) (above S L O b p) (above S L O c p) refl refl refl e

  rotated : (x y z : ℤ) → (y +ℤ z) +ℤ x ≡ (x +ℤ y) +ℤ z
  rotated x y z = omega (arith, ints)

  pub sum_rotated : (a b c : PlanePoint R.carrier) (p : TestPoint R.carrier) → edge_sum S b c a p ≡ edge_sum S a b c p
  sum_rotated a b c p = rotated (crossing S a b p) (crossing S b c p) (crossing S c a p)

  -- ---- the line along a→b has u, v and w on its right
  abbrev D : PlanePoint Expr
  D = record { x = var 9; y = var 10 }

  abbrev E : PlanePoint Expr
  E = record { x = var 11; y = var 12 }

  module _ (a b u v w : PlanePoint R.carrier) (p : TestPoint R.carrier) where
    abbrev all : List R.carrier
    all = a.x ∷ (a.y ∷ (b.x ∷ (b.y ∷ (u.x ∷ (u.y ∷ (p.x ∷ (p.y ∷ (p.d ∷ (v.x ∷ (v.y ∷ (w.x ∷ (w.y ∷ []))))))))))))

    -- a→b's side is the mean of the sides of the triangle, by the turns of its vertices
    mean_side : R.neg (R.mul (orientation R u v w) (side R a b p))
        ≡ R.add (R.add (R.mul (R.neg (orientation R a b w)) (side R u v p))
        (R.mul (R.neg (orientation R a b u)) (side R v w p)))
        (R.mul (R.neg (orientation R a b v)) (side R w u p))
    mean_side =
        ring R L all (neg (orientation exprs C D E ⊗ side exprs A B P))
        (neg (orientation exprs A B E) ⊗ side exprs C D P ⊕ neg (orientation exprs A B C) ⊗ side exprs D E P ⊕
        neg (orientation exprs A B D) ⊗ side exprs E C P) refl

    mean_fall : R.neg (R.mul (orientation R u v w) (difference R a.y b.y))
        ≡ R.add (R.add (R.mul (R.neg (orientation R a b w)) (difference R u.y v.y))
        (R.mul (R.neg (orientation R a b u)) (difference R v.y w.y)))
        (R.mul (R.neg (orientation R a b v)) (difference R w.y u.y))
    mean_fall =
        ring R L all (neg (orientation exprs C D E ⊗ (A.y ⊖ B.y)))
        (neg (orientation exprs A B E) ⊗ (C.y ⊖ D.y) ⊕ neg (orientation exprs A B C) ⊗ (D.y ⊖ E.y) ⊕ neg (orientation exprs A B D) ⊗ (E.y ⊖ C.y)) refl

    mean_run : R.neg (R.mul (orientation R u v w) (difference R b.x a.x))
        ≡ R.add (R.add (R.mul (R.neg (orientation R a b w)) (difference R v.x u.x))
        (R.mul (R.neg (orientation R a b u)) (difference R w.x v.x)))
        (R.mul (R.neg (orientation R a b v)) (difference R u.x w.x))
    mean_run =
        ring R L all (neg (orientation exprs C D E ⊗ (B.x ⊖ A.x)))
        (neg (orientation exprs A B E) ⊗ (D.x ⊖ C.x) ⊕ neg (orientation exprs A B C) ⊗ (E.x ⊖ D.x) ⊕ neg (orientation exprs A B D) ⊗ (C.x ⊖ E.x)) refl

    abbrev mixed_side : R.carrier
    mixed_side = R.add (R.add (R.mul (R.neg (orientation R a b w)) (side R u v p))
        (R.mul (R.neg (orientation R a b u)) (side R v w p)))
        (R.mul (R.neg (orientation R a b v)) (side R w u p))

    abbrev mixed_fall : R.carrier
    mixed_fall = R.add (R.add (R.mul (R.neg (orientation R a b w)) (difference R u.y v.y))
        (R.mul (R.neg (orientation R a b u)) (difference R v.y w.y)))
        (R.mul (R.neg (orientation R a b v)) (difference R w.y u.y))

    -- no point is in the one and in the other
    pub apart : (c : PlanePoint R.carrier) → IsPositive S p.d → IsPositive S (orientation R a b c) → IsPositive S (orientation R u v w)
        → IsNonNegative S (R.neg (orientation R a b u)) → IsNonNegative S (R.neg (orientation R a b v))
        → IsNonNegative S (R.neg (orientation R a b w))
        → edge_sum S a b c p ≡ pos 1 → edge_sum S u v w p ≡ pos 1 → ⊥
    unfolding OnLeft
    apart c d_pos left left' ru rv rw' e f =
        let z : (side R a b p ≡ zero_of) × (difference R a.y b.y ≡ zero_of) × (difference R b.x a.x ≡ zero_of) =
        lex-zero (orientation R u v w) (side R a b p) (difference R a.y b.y) (difference R b.x a.x) left' (on_left a b c p d_pos left e) negative in
        cc (sym left ∙ ap S.sign (flat z.1 z.2) ∙ O.zero_equal)
      where
        flat : difference R a.y b.y ≡ zero_of → difference R b.x a.x ≡ zero_of → orientation R a b c ≡ zero_of
        flat k l =
            ring_from R L (these S L O a b c p) (orientation exprs A B C) (con (pos 0))
            ((C.y ⊖ A.y, B.x ⊖ A.x, con (pos 0)) ∷ ((C.x ⊖ A.x, A.y ⊖ B.y, con (pos 0)) ∷ []))
            (l, (k, tt)) refl

        f2 : edge_sum S v w u p ≡ pos 1
        f2 = sum_rotated u v w p ∙ f

        f3 : edge_sum S w u v p ≡ pos 1
        f3 = sum_rotated v w u p ∙ f2

        left2 : IsPositive S (orientation R v w u)
        left2 = ap S.sign (turn_rotated S L O u v w p) ∙ left'

        left3 : IsPositive S (orientation R w u v)
        left3 = ap S.sign (turn_rotated S L O v w u p) ∙ left2

        negative : Lex (R.neg (R.mul (orientation R u v w) (side R a b p)))
            (R.neg (R.mul (orientation R u v w) (difference R a.y b.y)))
            (R.neg (R.mul (orientation R u v w) (difference R b.x a.x)))
        negative =
            subst (λ x. Lex x (R.neg (R.mul (orientation R u v w) (difference R a.y b.y)))
            (R.neg (R.mul (orientation R u v w) (difference R b.x a.x)))) (sym mean_side)
            (subst (λ y. Lex mixed_side y (R.neg (R.mul (orientation R u v w) (difference R b.x a.x)))) (sym mean_fall)
            (subst (λ z. Lex mixed_side mixed_fall z) (sym mean_run)
            (lex-add _ _ _ _ _ _ (lex-add _ _ _ _ _ _
            (lex-scale (R.neg (orientation R a b w)) _ _ _ rw' (on_left u v w p d_pos left' f))
            (lex-scale (R.neg (orientation R a b u)) _ _ _ ru (on_left v w u p d_pos left2 f2)))
            (lex-scale (R.neg (orientation R a b v)) _ _ _ rv (on_left w u v p d_pos left3 f3)))))
