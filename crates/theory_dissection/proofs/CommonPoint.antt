-- Two triangles on the left of edges along which one line u→v lies have a test point in common, near the middle of u→v.
use Rattle.std.proofs.Common.{◌≡◌, ℕ, zero, suc, List, [], ◌∷◌, ℤ, pos, negsuc, ◌+ℤ◌, ◌<ℤ◌, refl, sym, ap, ap₂, ◌∙◌, Bool, true, false, arith}
use Rattle.std.proofs.lemmas.Int.{ints}
use Rattle.std.specs.declared.cmp.Ordering.TheVariants.{Greater}
use Rattle.theory_ring.specs.Ring.{Ops, Laws, difference}
use Rattle.theory_ring.specs.Sign.{Signed, OrderLaws, IsPositive, IsNonNegative}
use Rattle.theory_plane.specs.Plane.{PlanePoint, TestPoint, side, orientation}
use Rattle.theory_plane.specs.Crossing.{crossing_of}
use Rattle.theory_ring.proofs.Normaliser.{Expr, var, con, neg, exprs, ring, ring_by, ring_from, ◌⊕◌, ◌⊖◌, ◌⊗◌}
use Rattle.theory_ring.proofs.Signs.{pos_nonneg, not_pos, nonneg_add, nonneg_mul, pos_add_nonneg, sign-scale, zero_factor}
use Rattle.theory_plane.proofs.Crossing.{above, A, B, C, these}
use Rattle.theory_plane.proofs.Triangle.{edge_sum, level_is, is_greater}
use Rattle.theory_plane.proofs.Inside.{both_zero}
use Rattle.theory_plane.proofs.BoxPoints.{whole_positive}
use Rattle.theory_dissection.proofs.Ahead.{Ahead, ahead-turns}

module _ (S : Signed) (L : Laws S.ops) (O : OrderLaws S) where
  abbrev R : Ops
  R = S.ops

  abbrev zero_of : R.carrier
  zero_of = R.int (pos 0)

  not_zero : (x : R.carrier) → IsPositive S x → x ≡ zero_of → ⊥
  not_zero x h e = cc (sym h ∙ ap S.sign e ∙ O.zero_equal)

  -- ---- a point on the left of all three sides is in the triangle
  module _ (a b c : PlanePoint R.carrier) (p : TestPoint R.carrier) (d_pos : IsPositive S p.d) (left : IsPositive S (orientation R a b c))
      (s1 : IsPositive S (side R a b p)) (s2 : IsPositive S (side R b c p)) (s3 : IsPositive S (side R c a p)) where
    abbrev α : R.carrier
    α = difference R (R.mul p.d a.y) p.y

    abbrev β : R.carrier
    β = difference R (R.mul p.d b.y) p.y

    abbrev γ : R.carrier
    γ = difference R (R.mul p.d c.y) p.y

    all_above : above S L O a p ≡ true → above S L O b p ≡ true → above S L O c p ≡ true → ⊥
    all_above f g h =
        not_zero _ (O.sign-add _ _ (O.sign-add _ _ (O.sign-mul _ _ s2 (is_greater S L O _ f))
        (O.sign-mul _ _ s3 (is_greater S L O _ g))) (O.sign-mul _ _ s1 (is_greater S L O _ h)))
        (level_is S L O a b c p)

    none_above : above S L O a p ≡ false → above S L O b p ≡ false → above S L O c p ≡ false → ⊥
    none_above f g h =
        let e : (R.add (R.mul (side R b c p) (R.neg α)) (R.mul (side R c a p) (R.neg β)) ≡ zero_of)
        × (R.mul (side R a b p) (R.neg γ) ≡ zero_of) = both_zero S L O _ _ (nonneg_add S L O _ _ x y) z
        whole in
        let k : (R.mul (side R b c p) (R.neg α) ≡ zero_of) × (R.mul (side R c a p) (R.neg β) ≡ zero_of) = both_zero S L O _ _ x y e.0 in
        flat (zero_factor S L O _ _ s2 k.0) (zero_factor S L O _ _ s3 k.1) (zero_factor S L O _ _ s1 e.1)
      where
        x : IsNonNegative S (R.mul (side R b c p) (R.neg α))
        x = nonneg_mul S L O _ _ (pos_nonneg S L O _ s2) (not_pos S L O _ f)

        y : IsNonNegative S (R.mul (side R c a p) (R.neg β))
        y = nonneg_mul S L O _ _ (pos_nonneg S L O _ s3) (not_pos S L O _ g)

        z : IsNonNegative S (R.mul (side R a b p) (R.neg γ))
        z = nonneg_mul S L O _ _ (pos_nonneg S L O _ s1) (not_pos S L O _ h)

        whole : R.add (R.add (R.mul (side R b c p) (R.neg α)) (R.mul (side R c a p) (R.neg β))) (R.mul (side R a b p) (R.neg γ)) ≡ zero_of
        whole =
            ring_by R L (side R a b p ∷ (side R b c p ∷ (side R c a p ∷ (α ∷ (β ∷ (γ ∷ []))))))
            (var 1 ⊗ neg (var 3) ⊕ var 2 ⊗ neg (var 4) ⊕ var 0 ⊗ neg (var 5)) (con (pos 0))
            (con (negsuc 0)) (var 1 ⊗ var 3 ⊕ var 2 ⊗ var 4 ⊕ var 0 ⊗ var 5) (con (pos 0)) (level_is S L O a b c p) refl

        -- three vertices at the point's height
        flat : R.neg α ≡ zero_of → R.neg β ≡ zero_of → R.neg γ ≡ zero_of → ⊥
        flat k l m =
            not_zero (R.mul p.d (orientation R a b c)) (O.sign-mul _ _ d_pos left)
            (ring_from R L (these S L O a b c p) (var 8 ⊗ orientation exprs A B C) (con (pos 0))
            ((neg (B.x ⊖ A.x), neg (var 8 ⊗ C.y ⊖ var 7), con (pos 0))
            ∷ (((B.x ⊖ A.x) ⊖ (C.x ⊖ A.x), neg (var 8 ⊗ A.y ⊖ var 7), con (pos 0))
            ∷ ((C.x ⊖ A.x, neg (var 8 ⊗ B.y ⊖ var 7), con (pos 0)) ∷ [])))
            (m, (k, (l, tt))) refl)

    at_heights : (x y z : Bool) → above S L O a p ≡ x → above S L O b p ≡ y → above S L O c p ≡ z
        → crossing_of x y Greater +ℤ crossing_of y z Greater +ℤ crossing_of z x Greater ≡ pos 1
    at_heights true true true f g h = absurd (all_above f g h)
    at_heights false false false f g h = absurd (none_above f g h)
    at_heights false false true f g h = refl
    at_heights true false false f g h = refl
    at_heights false true false f g h = refl
    at_heights false true true f g h = refl
    at_heights true false true f g h = refl
    at_heights true true false f g h = refl

    pub inside-count : edge_sum S a b c p ≡ pos 1
    inside-count =
        ap₂ (λ x y. x +ℤ y) (ap₂ (λ x y. x +ℤ y) (ap (crossing_of (above S L O a p) (above S L O b p)) s1)
        (ap (crossing_of (above S L O b p) (above S L O c p)) s2))
        (ap (crossing_of (above S L O c p) (above S L O a p)) s3)
        ∙ at_heights (above S L O a p) (above S L O b p) (above S L O c p) refl refl refl

  -- ---- the point k (u + v) + z over 2k + 1
  abbrev pub near : PlanePoint R.carrier → PlanePoint R.carrier → PlanePoint R.carrier → R.carrier → TestPoint R.carrier
  near u v z k = record {
    x = R.add (R.mul k (R.add u.x v.x)) z.x;
    y = R.add (R.mul k (R.add u.y v.y)) z.y;
    d = R.add (R.add k k) (R.int (pos 1));
  }

  near_d : (u v z : PlanePoint R.carrier) (k : R.carrier) → IsPositive S k → IsPositive S (near u v z k).d
  near_d u v z k h = O.sign-add _ _ (O.sign-add _ _ h h) O.one_greater

  abbrev U : PlanePoint Expr
  U = record { x = var 4; y = var 5 }

  abbrev V : PlanePoint Expr
  V = record { x = var 6; y = var 7 }

  abbrev Z : PlanePoint Expr
  Z = record { x = var 8; y = var 9 }

  abbrev N : Expr
  N = var 10

  abbrev Q : TestPoint Expr
  Q = record { x = N ⊗ (U.x ⊕ V.x) ⊕ Z.x; y = N ⊗ (U.y ⊕ V.y) ⊕ Z.y; d = N ⊕ N ⊕ con (pos 1) }

  -- its side of an edge
  near-side : (a b u v z : PlanePoint R.carrier) (k : R.carrier)
      → side R a b (near u v z k) ≡ R.add (R.mul k (R.add (orientation R a b u) (orientation R a b v)))
      (orientation R a b z)
  near-side a b u v z k =
      ring R L (a.x ∷ (a.y ∷ (b.x ∷ (b.y ∷ (u.x ∷ (u.y ∷ (v.x ∷ (v.y ∷ (z.x ∷ (z.y ∷ (k ∷ []))))))))))) (side exprs A B Q)
      (N ⊗ (orientation exprs A B U ⊕ orientation exprs A B V) ⊕ orientation exprs A B Z) refl

  module _ (a b w u v : PlanePoint R.carrier) (h : Ahead S a b u v) (left : IsPositive S (orientation R a b w)) where
    abbrev all : List R.carrier
    all = a.x ∷ (a.y ∷ (b.x ∷ (b.y ∷ (u.x ∷ (u.y ∷ (v.x ∷ (v.y ∷ (w.x ∷ (w.y ∷ (h.p ∷ (h.q ∷ (h.s ∷ (h.rest ∷ [])))))))))))))

    abbrev M : Expr
    M = var 10

    -- the middle of u→v is on the line along a→b
    middle-on : R.add (orientation R a b u) (orientation R a b v) ≡ zero_of
    middle-on = O.equal_zero _ (sym (sign-scale S L O h.p _ h.p_pos) ∙ ap S.sign (
        ring_from R L all (M ⊗ (orientation exprs A B U ⊕ orientation exprs A B V)) (con (pos 0))
        ((con (pos 2) ⊗ (B.x ⊖ A.x), M ⊗ (U.y ⊖ A.y), var 12 ⊗ (B.y ⊖ A.y))
        ∷ ((neg (con (pos 2) ⊗ (B.y ⊖ A.y)), M ⊗ (U.x ⊖ A.x), var 12 ⊗ (B.x ⊖ A.x))
        ∷ ((B.x ⊖ A.x, M ⊗ (V.y ⊖ U.y), var 11 ⊗ (B.y ⊖ A.y)) ∷ ((neg (B.y ⊖ A.y), M ⊗ (V.x ⊖ U.x), var 11 ⊗ (B.x ⊖ A.x)) ∷ []))))
        (h.start-y, (h.start-x, (h.run-y, (h.run-x, tt)))) refl) ∙ O.zero_equal)

    -- and strictly left of the other two edges of the triangle
    middle-second : IsPositive S (R.add (orientation R b w u) (orientation R b w v))
    middle-second =
        sym (sign-scale S L O h.p _ h.p_pos) ∙ ap S.sign (
        ring_from R L all (M ⊗ (orientation exprs B Z U ⊕ orientation exprs B Z V)) ((var 11 ⊕ (var 13 ⊕ var 13)) ⊗ orientation exprs A B Z)
        ((con (pos 2) ⊗ (Z.x ⊖ B.x), M ⊗ (U.y ⊖ A.y), var 12 ⊗ (B.y ⊖ A.y))
        ∷ ((neg (con (pos 2) ⊗ (Z.y ⊖ B.y)), M ⊗ (U.x ⊖ A.x), var 12 ⊗ (B.x ⊖ A.x))
        ∷ ((Z.x ⊖ B.x, M ⊗ (V.y ⊖ U.y), var 11 ⊗ (B.y ⊖ A.y)) ∷ ((neg (Z.y ⊖ B.y), M ⊗ (V.x ⊖ U.x), var 11 ⊗ (B.x ⊖ A.x))
        ∷ ((con (pos 2) ⊗ orientation exprs A B Z, M, (var 12 ⊕ var 11) ⊕ var 13) ∷ [])))))
        (h.start-y, (h.start-x, (h.run-y, (h.run-x, (h.whole, tt))))) refl)
        ∙ O.sign-mul _ _ (pos_add_nonneg S L O h.q (R.add h.rest h.rest) h.q_pos (nonneg_add S L O _ _ h.rest_nonneg h.rest_nonneg)) left

    middle-third : IsPositive S (R.add (orientation R w a u) (orientation R w a v))
    middle-third =
        sym (sign-scale S L O h.p _ h.p_pos) ∙ ap S.sign (
        ring_from R L all (M ⊗ (orientation exprs Z A U ⊕ orientation exprs Z A V)) ((var 11 ⊕ (var 12 ⊕ var 12)) ⊗ orientation exprs A B Z)
        ((con (pos 2) ⊗ (A.x ⊖ Z.x), M ⊗ (U.y ⊖ A.y), var 12 ⊗ (B.y ⊖ A.y))
        ∷ ((neg (con (pos 2) ⊗ (A.y ⊖ Z.y)), M ⊗ (U.x ⊖ A.x), var 12 ⊗ (B.x ⊖ A.x))
        ∷ ((A.x ⊖ Z.x, M ⊗ (V.y ⊖ U.y), var 11 ⊗ (B.y ⊖ A.y)) ∷ ((neg (A.y ⊖ Z.y), M ⊗ (V.x ⊖ U.x), var 11 ⊗ (B.x ⊖ A.x)) ∷ []))))
        (h.start-y, (h.start-x, (h.run-y, (h.run-x, tt)))) refl)
        ∙ O.sign-mul _ _ (pos_add_nonneg S L O h.q (R.add h.s h.s) h.q_pos (nonneg_add S L O _ _ h.s_nonneg h.s_nonneg)) left

  -- ---- multiples large enough
  -- k m + t is positive
  abbrev Enough : R.carrier → R.carrier → R.carrier → Type 0
  Enough m t k = IsPositive S (R.add (R.mul k m) t)

  as_suc : (k : ℤ) → pos 0 <ℤ k → (n : ℕ) × (k ≡ pos (suc n))
  as_suc (pos zero) h = absurd (omega arith)
  as_suc (pos (suc n)) h = (n, refl)
  as_suc (negsuc n) h = absurd (omega (arith, ints))

  pub enough : (m t : R.carrier) → IsPositive S m → (k : R.carrier) × IsPositive S k × Enough m t k
  enough m t h =
      let p = O.passes m (R.neg t) h in
      let n = as_suc p.0 p.1 in (
        R.int p.0,
        ap (λ k. S.sign (R.int k)) n.1 ∙ whole_positive S L O n.0,
        ap S.sign (ring R L (R.int p.0 ∷ (m ∷ (t ∷ []))) (var 0 ⊗ var 1 ⊕ var 2) (var 0 ⊗ var 1 ⊖ neg (var 2)) refl) ∙ p.2,
      )

  pub enough-more : (m t k j : R.carrier) → IsPositive S m → Enough m t k → IsPositive S j → Enough m t (R.add k j)
  enough-more m t k j h e p =
      ap S.sign (ring R L (m ∷ (t ∷ (k ∷ (j ∷ [])))) ((var 2 ⊕ var 3) ⊗ var 0 ⊕ var 1)
      ((var 2 ⊗ var 0 ⊕ var 1) ⊕ var 3 ⊗ var 0) refl) ∙ O.sign-add _ _ e (O.sign-mul _ _ p h)

  -- how large k must be for the triangle on a→b, and for each larger one it is in it
  record Threshold (a b w u v z : PlanePoint R.carrier) : Type 0 where
    from : R.carrier
    from_pos : IsPositive S from
    holds : (j : R.carrier) → IsPositive S j → edge_sum S a b w (near u v z (R.add from j)) ≡ pos 1

  threshold : (a b w u v z : PlanePoint R.carrier) → Ahead S a b u v → IsPositive S (orientation R a b w)
      → IsPositive S (orientation R u v z) → Threshold a b w u v z
  threshold a b w u v z h left above_line = record {
    from = R.add one.0 two.0;
    from_pos = O.sign-add _ _ one.1 two.1;
    holds = λ j p. inside-count a b w (near u v z (R.add (R.add one.0 two.0) j)) (near_d u v z _ (O.sign-add _ _ (O.sign-add _ _ one.1 two.1) p)) left
        (ap S.sign (near-side a b u v z _ ∙ ap (λ m. R.add (R.mul (R.add (R.add one.0 two.0) j) m) (orientation R a b z)) (middle-on a b w u v h left)
        ∙ ring R L (R.add (R.add one.0 two.0) j ∷ (orientation R a b z ∷ [])) (var 0 ⊗ con (pos 0) ⊕ var 1)
        (var 1) refl) ∙ ahead-turns S L O a b u v z h ∙ above_line)
        (ap S.sign (near-side b w u v z _) ∙ enough-more _ _ _ j second (enough-more _ _ one.0 two.0 second one.2 two.1) p)
        (ap S.sign (near-side w a u v z _) ∙ enough-more _ _ _ j third
        (ap (λ k. S.sign (R.add (R.mul k (R.add (orientation R w a u) (orientation R w a v)))
        (orientation R w a z))) (L.add_comm one.0 two.0) ∙ enough-more _ _ two.0 one.0 third two.2 one.1)
        p);
  }
    where
      second : IsPositive S (R.add (orientation R b w u) (orientation R b w v))
      second = middle-second a b w u v h left

      third : IsPositive S (R.add (orientation R w a u) (orientation R w a v))
      third = middle-third a b w u v h left

      one : (k : R.carrier) × IsPositive S k × Enough (R.add (orientation R b w u) (orientation R b w v)) (orientation R b w z) k
      one = enough _ _ second

      two : (k : R.carrier) × IsPositive S k × Enough (R.add (orientation R w a u) (orientation R w a v)) (orientation R w a z) k
      two = enough _ _ third

  pub record Shared (a b w a' b' w' : PlanePoint R.carrier) : Type 0 where
    pub point : TestPoint R.carrier
    pub d_pos : IsPositive S point.d
    pub in_one : edge_sum S a b w point ≡ pos 1
    pub in_other : edge_sum S a' b' w' point ≡ pos 1

  pub common_point : (a b w a' b' w' u v : PlanePoint R.carrier) → IsPositive S (orientation R a b w)
      → IsPositive S (orientation R a' b' w') → Ahead S a b u v → Ahead S a' b' u v → Shared a b w a' b' w'
  common_point a b w a' b' w' u v left left' h g =
      let above_line : IsPositive S (orientation R u v w) = sym (ahead-turns S L O a b u v w h) ∙ left in
      let one = threshold a b w u v w h left above_line in
      let two = threshold a' b' w' u v w g left' above_line in
      record {
        point = near u v w (R.add one.from two.from);
        d_pos = near_d u v w _ (O.sign-add _ _ one.from_pos two.from_pos);
        in_one = one.holds two.from two.from_pos;
        in_other = ap (λ k. edge_sum S a' b' w' (near u v w k)) (L.add_comm one.from two.from) ∙ two.holds one.from one.from_pos;
      }
