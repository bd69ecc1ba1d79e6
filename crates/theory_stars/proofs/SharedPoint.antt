-- Two triangles with one vertex a, of which one has an edge from a to a point w in the other, on the side on
-- which the other goes on, have a test point in common.
use Rattle.std.proofs.Common.{◌≡◌, ◌⊎◌, inl, inr, ℕ, suc, ◌+◌, List, [], ◌∷◌, pos, ◌+ℤ◌, ◌*ℤ◌, refl, sym, ap, ◌∙◌, true, int_eq, arith}
use Rattle.std.proofs.lemmas.Int.{ints}
use Rattle.theory_ring.specs.Ring.{Ops, Laws}
use Rattle.theory_ring.specs.Sign.{Signed, OrderLaws, IsPositive, IsNonNegative}
use Rattle.theory_ring.proofs.Normaliser.{Expr, var, con, neg, exprs, ring, ring_from, ◌⊕◌, ◌⊖◌, ◌⊗◌}
use Rattle.theory_ring.proofs.Signs.{nonneg_cases, pos_add_nonneg, sign-scale}
use Rattle.theory_plane.specs.Plane.{PlanePoint, TestPoint, IsTestPoint, side, orientation}
use Rattle.theory_plane.specs.Crossing.{member}
use Rattle.theory_plane.specs.Triangle.{Triangle, corners}
use Rattle.theory_plane.proofs.BoxPoints.{whole_positive, test_positive}
use Rattle.theory_plane.proofs.Triangle.{count-edge_sum}
use Rattle.theory_dissection.proofs.CommonPoint.{inside-count}
use Rattle.theory_windows.proofs.Multiples.{all_reach}

module _ (S : Signed) (L : Laws S.ops) (O : OrderLaws S) where
  abbrev R : Ops
  R = S.ops

  abbrev Point : Type 0
  Point = PlanePoint R.carrier

  -- w is a mean of a, p and q, with weights r, i and j
  pub record Mean (a p q w : Point) : Type 0 where
    pub r : R.carrier
    pub i : R.carrier
    pub j : R.carrier
    pub r_nonneg : IsNonNegative S r
    pub i_nonneg : IsNonNegative S i
    pub j_nonneg : IsNonNegative S j
    pub some : IsPositive S (R.add r (R.add i j))
    pub at_x : R.mul (R.add r (R.add i j)) w.x ≡ R.add (R.mul r a.x) (R.add (R.mul i p.x) (R.mul j q.x))
    pub at_y : R.mul (R.add r (R.add i j)) w.y ≡ R.add (R.mul r a.y) (R.add (R.mul i p.y) (R.mul j q.y))

  -- a test point in two triangles
  pub record Shared (t u : Triangle Point) : Type 0 where
    pub point : TestPoint R.carrier
    pub test : IsTestPoint S point
    pub in_one : member S (corners t) point ≡ true
    pub in_other : member S (corners u) point ≡ true

  abbrev pub tri : Point → Point → Point → Triangle Point
  tri a b c = record { a = a; b = b; c = c }

  holds : (a b c : Point) (p : TestPoint R.carrier) → IsTestPoint S p → IsPositive S (orientation R a b c)
      → IsPositive S (side R a b p) → IsPositive S (side R b c p) → IsPositive S (side R c a p)
      → member S (corners (tri a b c)) p ≡ true
  holds a b c p t left s1 s2 s3 =
      ap (λ z. int_eq z (pos 1)) (count-edge_sum S (tri a b c) p ∙ inside-count S L O a b c p (test_positive S L O p t) left s1 s2 s3)

  module _ (a w x p q : Point) where
    abbrev A : PlanePoint Expr
    A = record { x = var 0; y = var 1 }

    abbrev W : PlanePoint Expr
    W = record { x = var 2; y = var 3 }

    abbrev X : PlanePoint Expr
    X = record { x = var 4; y = var 5 }

    abbrev P : PlanePoint Expr
    P = record { x = var 6; y = var 7 }

    abbrev Q : PlanePoint Expr
    Q = record { x = var 8; y = var 9 }

    turn_once : orientation R w x a ≡ orientation R a w x
    turn_once = ring R L (a.x ∷ (a.y ∷ (w.x ∷ (w.y ∷ (x.x ∷ (x.y ∷ [])))))) (orientation exprs W X A) (orientation exprs A W X) refl

    turn_twice : orientation R x a w ≡ orientation R a w x
    turn_twice = ring R L (a.x ∷ (a.y ∷ (w.x ∷ (w.y ∷ (x.x ∷ (x.y ∷ [])))))) (orientation exprs X A W) (orientation exprs A W X) refl

    -- ---- k times the middle of a and w, and x once
    module _ (k : R.carrier) where
      abbrev near : TestPoint R.carrier
      near = record {
        x = R.add (R.mul k (R.add a.x w.x)) x.x;
        y = R.add (R.mul k (R.add a.y w.y)) x.y;
        d = R.add (R.mul k (R.int (pos 2))) (R.int (pos 1));
      }

      abbrev N : TestPoint Expr
      N = record { x = var 10 ⊗ (var 0 ⊕ var 2) ⊕ var 4; y = var 10 ⊗ (var 1 ⊕ var 3) ⊕ var 5; d = var 10 ⊗ con (pos 2) ⊕ con (pos 1) }

      abbrev all : List R.carrier
      all = a.x ∷ (a.y ∷ (w.x ∷ (w.y ∷ (x.x ∷ (x.y ∷ (p.x ∷ (p.y ∷ (q.x ∷ (q.y ∷ (k ∷ []))))))))))

      side_aw : side R a w near ≡ orientation R a w x
      side_aw = ring R L all (side exprs A W N) (orientation exprs A W X) refl

      side_wx : side R w x near ≡ R.mul k (orientation R w x a)
      side_wx = ring R L all (side exprs W X N) (var 10 ⊗ orientation exprs W X A) refl

      side_xa : side R x a near ≡ R.mul k (orientation R x a w)
      side_xa = ring R L all (side exprs X A N) (var 10 ⊗ orientation exprs X A W) refl

      side_ax : side R a x near ≡ R.mul k (orientation R a x w)
      side_ax = ring R L all (side exprs A X N) (var 10 ⊗ orientation exprs A X W) refl

      side_xw : side R x w near ≡ R.mul k (orientation R a x w)
      side_xw = ring R L all (side exprs X W N) (var 10 ⊗ orientation exprs A X W) refl

      side_wa : side R w a near ≡ orientation R a x w
      side_wa = ring R L all (side exprs W A N) (orientation exprs A X W) refl

      side_ap : side R a p near ≡ R.add (R.mul k (orientation R a p w)) (orientation R a p x)
      side_ap = ring R L all (side exprs A P N) (var 10 ⊗ orientation exprs A P W ⊕ orientation exprs A P X) refl

      side_pq : side R p q near ≡ R.add (R.mul k (R.add (orientation R p q a) (orientation R p q w))) (orientation R p q x)
      side_pq = ring R L all (side exprs P Q N) (var 10 ⊗ (orientation exprs P Q A ⊕ orientation exprs P Q W) ⊕ orientation exprs P Q X) refl

      side_qa : side R q a near ≡ R.add (R.mul k (orientation R q a w)) (orientation R q a x)
      side_qa = ring R L all (side exprs Q A N) (var 10 ⊗ orientation exprs Q A W ⊕ orientation exprs Q A X) refl

    near-test : (n : ℕ) → IsTestPoint S (near (R.int (pos (suc n))))
    near-test n =
        let e : pos (suc n) *ℤ pos 2 +ℤ pos 1 ≡ pos (suc (n + n + 2)) = omega (arith, ints) in (
          n + n + 2,
          ap (λ z. R.add z (R.int (pos 1))) (sym (L.int_mul (pos (suc n)) (pos 2)))
              ∙ sym (L.int_add (pos (suc n) *ℤ pos 2) (pos 1)) ∙ ap R.int e,
        )

    -- ---- w in the triangle a, p, q
    module _ (m : Mean a p q w) (left : IsPositive S (orientation R a p q)) where
      abbrev sum : R.carrier
      sum = R.add m.r (R.add m.i m.j)

      abbrev more : List R.carrier
      more = a.x ∷ (a.y ∷ (w.x ∷ (w.y ∷ (x.x ∷ (x.y ∷ (p.x ∷ (p.y ∷ (q.x ∷ (q.y ∷ (m.r ∷ (m.i ∷ (m.j ∷ []))))))))))))

      abbrev G : Expr
      G = var 10 ⊕ (var 11 ⊕ var 12)

      abbrev known : Expr → Expr → List (Expr × Expr × Expr)
      known f g = (f, G ⊗ var 2, var 10 ⊗ var 0 ⊕ (var 11 ⊗ var 6 ⊕ var 12 ⊗ var 8))
          ∷ ((g, G ⊗ var 3, var 10 ⊗ var 1 ⊕ (var 11 ⊗ var 7 ⊕ var 12 ⊗ var 9)) ∷ [])

      turn_apw : R.mul sum (orientation R a p w) ≡ R.mul m.j (orientation R a p q)
      turn_apw = ring_from R L more (G ⊗ orientation exprs A P W) (var 12 ⊗ orientation exprs A P Q)
          (known (neg (P.y ⊖ A.y)) (P.x ⊖ A.x)) (m.at_x, (m.at_y, tt)) refl

      turn_qaw : R.mul sum (orientation R q a w) ≡ R.mul m.i (orientation R a p q)
      turn_qaw = ring_from R L more (G ⊗ orientation exprs Q A W) (var 11 ⊗ orientation exprs A P Q)
          (known (neg (A.y ⊖ Q.y)) (A.x ⊖ Q.x)) (m.at_x, (m.at_y, tt)) refl

      turn_pqw : R.mul sum (R.add (orientation R p q a) (orientation R p q w)) ≡ R.mul (R.add sum m.r) (orientation R a p q)
      turn_pqw = ring_from R L more (G ⊗ (orientation exprs P Q A ⊕ orientation exprs P Q W))
          ((G ⊕ var 10) ⊗ orientation exprs A P Q) (known (neg (Q.y ⊖ P.y)) (Q.x ⊖ P.x))
          (m.at_x, (m.at_y, tt)) refl

      turn_awx : R.mul sum (orientation R a w x) ≡ R.add (R.mul m.i (orientation R a p x)) (R.mul m.j (orientation R a q x))
      turn_awx = ring_from R L more (G ⊗ orientation exprs A W X)
          (var 11 ⊗ orientation exprs A P X ⊕ var 12 ⊗ orientation exprs A Q X)
          (known (X.y ⊖ A.y) (neg (X.x ⊖ A.x))) (m.at_x, (m.at_y, tt)) refl

      turn_axw : R.mul sum (orientation R a x w) ≡ R.add (R.mul m.i (orientation R a x p)) (R.mul m.j (orientation R q a x))
      turn_axw = ring_from R L more (G ⊗ orientation exprs A X W)
          (var 11 ⊗ orientation exprs A X P ⊕ var 12 ⊗ orientation exprs Q A X)
          (known (neg (X.y ⊖ A.y)) (X.x ⊖ A.x)) (m.at_x, (m.at_y, tt)) refl

      lifted : (s t : R.carrier) → R.mul sum s ≡ t → IsPositive S t → IsPositive S s
      lifted s t e h = sym (sign-scale S L O sum s m.some) ∙ ap S.sign e ∙ h

      zero_times : (z : R.carrier) → R.mul (R.int (pos 0)) z ≡ R.int (pos 0)
      zero_times z = ring R L (z ∷ []) (con (pos 0) ⊗ var 0) (con (pos 0)) refl

      pq_positive : IsPositive S (R.add (orientation R p q a) (orientation R p q w))
      pq_positive = lifted _ _ turn_pqw (O.sign-mul _ _ (pos_add_nonneg S L O _ _ m.some m.r_nonneg) left)

      -- where one weight is 0 the other isn't
      only_left : IsPositive S (orientation R a w x) → m.j ≡ R.int (pos 0) → R.mul m.i (orientation R a p x) ≡ R.mul sum (orientation R a w x)
      only_left h e = sym (turn_awx ∙ ap (R.add (R.mul m.i (orientation R a p x)))
          (ap (λ z. R.mul z (orientation R a q x)) e ∙ zero_times _) ∙ L.add_zero _)

      only_right : IsPositive S (orientation R a x w) → m.i ≡ R.int (pos 0) → R.mul m.j (orientation R q a x) ≡ R.mul sum (orientation R a x w)
      only_right h e = sym (turn_axw ∙ ap (λ z. R.add z (R.mul m.j (orientation R q a x)))
          (ap (λ z. R.mul z (orientation R a x p)) e ∙ zero_times _) ∙ L.add_comm _ _ ∙ L.add_zero _)

      not_zero : (z t : R.carrier) → R.mul z t ≡ R.mul sum (orientation R a w x) → IsPositive S (orientation R a w x) → z ≡ R.int (pos 0) → ⊥
      not_zero z t e h f = cc (sym (O.sign-mul _ _ m.some h) ∙ ap S.sign (sym e ∙ ap (λ u. R.mul u t) f ∙ zero_times t) ∙ O.zero_equal)

      not_zero_right : (z t : R.carrier) → R.mul z t ≡ R.mul sum (orientation R a x w) → IsPositive S (orientation R a x w) → z ≡ R.int (pos 0) → ⊥
      not_zero_right z t e h f = cc (sym (O.sign-mul _ _ m.some h) ∙ ap S.sign (sym e ∙ ap (λ u. R.mul u t) f ∙ zero_times t) ∙ O.zero_equal)

      pub left_weight : IsPositive S (orientation R a w x) → m.j ≡ R.int (pos 0) → IsPositive S m.i
      left_weight h e = at_case (nonneg_cases S L O m.i m.i_nonneg)
        where
          at_case : IsPositive S m.i ⊎ (m.i ≡ R.int (pos 0)) → IsPositive S m.i
          at_case (inl g) = g
          at_case (inr f) = absurd (not_zero m.i (orientation R a p x) (only_left h e) h f)

      pub right_weight : IsPositive S (orientation R a x w) → m.i ≡ R.int (pos 0) → IsPositive S m.j
      right_weight h e = at_case (nonneg_cases S L O m.j m.j_nonneg)
        where
          at_case : IsPositive S m.j ⊎ (m.j ≡ R.int (pos 0)) → IsPositive S m.j
          at_case (inl g) = g
          at_case (inr f) = absurd (not_zero_right m.j (orientation R q a x) (only_right h e) h f)

      -- the second triangle goes on to the left of a→w
      pub left_shared : IsPositive S m.i → IsPositive S (orientation R a w x) → Shared (tri a w x) (tri a p q)
      left_shared i_pos h = at_case (nonneg_cases S L O m.j m.j_nonneg)
        where
          qa_positive : IsPositive S (orientation R q a w)
          qa_positive = lifted _ _ turn_qaw (O.sign-mul _ _ i_pos left)

          made : (n : ℕ) → IsPositive S (R.add (R.mul (R.int (pos (suc n))) (orientation R a p w)) (orientation R a p x))
              → IsPositive S (R.add (R.mul (R.int (pos (suc n))) (R.add (orientation R p q a) (orientation R p q w))) (orientation R p q x))
              → IsPositive S (R.add (R.mul (R.int (pos (suc n))) (orientation R q a w)) (orientation R q a x)) → Shared (tri a w x) (tri a p q)
          made n s1 s2 s3 =
              let k : R.carrier = R.int (pos (suc n)) in
              record {
                point = near k;
                test = near-test n;
                in_one = holds a w x (near k) (near-test n) h (ap S.sign (side_aw k) ∙ h)
                    (ap S.sign (side_wx k) ∙ O.sign-mul _ _ (whole_positive S L O n) (ap S.sign turn_once ∙ h))
                    (ap S.sign (side_xa k) ∙ O.sign-mul _ _ (whole_positive S L O n) (ap S.sign turn_twice ∙ h));
                in_other = holds a p q (near k) (near-test n) left (ap S.sign (side_ap k) ∙ s1)
                    (ap S.sign (side_pq k) ∙ s2) (ap S.sign (side_qa k) ∙ s3);
              }

          at_case : IsPositive S m.j ⊎ (m.j ≡ R.int (pos 0)) → Shared (tri a w x) (tri a p q)
          at_case (inl g) =
              let n = all_reach S L O (record { size = orientation R a p w; from = orientation R a p x }
              ∷ (record {
                size = R.add (orientation R p q a) (orientation R p q w);
                from = orientation R p q x;
              } ∷ (record
              { size = orientation R q a w; from = orientation R q a x } ∷ [])))
              (lifted _ _ turn_apw (O.sign-mul _ _ g left), (pq_positive, (qa_positive, tt))) in
              made n.0 n.1.0 n.1.1.0 n.1.1.1.0
          at_case (inr e) =
              let n = all_reach S L O (record {
                size = R.add (orientation R p q a) (orientation R p q w);
                from = orientation R p q x;
              } ∷ (record
              { size = orientation R q a w; from = orientation R q a x } ∷ []))
              (pq_positive, (qa_positive, tt)) in
              made n.0 (ap S.sign (ap (λ z. R.add z (orientation R a p x))
              (ap (R.mul (R.int (pos (suc n.0)))) flat
              ∙ ring R L (R.int (pos (suc n.0)) ∷ []) (var 0 ⊗ con (pos 0)) (con (pos 0)) refl)
              ∙ L.add_comm _ _ ∙ L.add_zero _) ∙ apx) n.1.0 n.1.1.0
            where
              flat : orientation R a p w ≡ R.int (pos 0)
              flat = O.equal_zero _ (sym (sign-scale S L O sum _ m.some)
                  ∙ ap S.sign (turn_apw ∙ ap (λ z. R.mul z (orientation R a p q)) e ∙ zero_times _)
                  ∙ O.zero_equal)

              apx : IsPositive S (orientation R a p x)
              apx = sym (sign-scale S L O m.i _ i_pos) ∙ ap S.sign (only_left h e) ∙ O.sign-mul _ _ m.some h

      -- the second triangle goes on to the right of a→w
      pub right_shared : IsPositive S m.j → IsPositive S (orientation R a x w) → Shared (tri a x w) (tri a p q)
      right_shared j_pos h = at_case (nonneg_cases S L O m.i m.i_nonneg)
        where
          ap_positive : IsPositive S (orientation R a p w)
          ap_positive = lifted _ _ turn_apw (O.sign-mul _ _ j_pos left)

          made : (n : ℕ) → IsPositive S (R.add (R.mul (R.int (pos (suc n))) (orientation R a p w)) (orientation R a p x))
              → IsPositive S (R.add (R.mul (R.int (pos (suc n))) (R.add (orientation R p q a) (orientation R p q w))) (orientation R p q x))
              → IsPositive S (R.add (R.mul (R.int (pos (suc n))) (orientation R q a w)) (orientation R q a x)) → Shared (tri a x w) (tri a p q)
          made n s1 s2 s3 =
              let k : R.carrier = R.int (pos (suc n)) in
              record {
                point = near k;
                test = near-test n;
                in_one = holds a x w (near k) (near-test n) h
                    (ap S.sign (side_ax k) ∙ O.sign-mul _ _ (whole_positive S L O n) h)
                    (ap S.sign (side_xw k) ∙ O.sign-mul _ _ (whole_positive S L O n) h)
                    (ap S.sign (side_wa k) ∙ h);
                in_other = holds a p q (near k) (near-test n) left (ap S.sign (side_ap k) ∙ s1)
                    (ap S.sign (side_pq k) ∙ s2) (ap S.sign (side_qa k) ∙ s3);
              }

          at_case : IsPositive S m.i ⊎ (m.i ≡ R.int (pos 0)) → Shared (tri a x w) (tri a p q)
          at_case (inl g) =
              let n = all_reach S L O (record { size = orientation R a p w; from = orientation R a p x }
              ∷ (record {
                size = R.add (orientation R p q a) (orientation R p q w);
                from = orientation R p q x;
              } ∷ (record
              { size = orientation R q a w; from = orientation R q a x } ∷ [])))
              (ap_positive, (pq_positive, (lifted _ _ turn_qaw (O.sign-mul _ _ g left), tt))) in
              made n.0 n.1.0 n.1.1.0 n.1.1.1.0
          at_case (inr e) =
              let n = all_reach S L O (record { size = orientation R a p w; from = orientation R a p x }
              ∷ (record {
                size = R.add (orientation R p q a) (orientation R p q w);
                from = orientation R p q x;
              } ∷ []))
              (ap_positive, (pq_positive, tt)) in
              made n.0 n.1.0 n.1.1.0 (ap S.sign (ap (λ z. R.add z (orientation R q a x))
              (ap (R.mul (R.int (pos (suc n.0)))) flat
              ∙ ring R L (R.int (pos (suc n.0)) ∷ []) (var 0 ⊗ con (pos 0)) (con (pos 0)) refl)
              ∙ L.add_comm _ _ ∙ L.add_zero _) ∙ qax)
            where
              flat : orientation R q a w ≡ R.int (pos 0)
              flat = O.equal_zero _ (sym (sign-scale S L O sum _ m.some)
                  ∙ ap S.sign (turn_qaw ∙ ap (λ z. R.mul z (orientation R a p q)) e ∙ zero_times _)
                  ∙ O.zero_equal)

              qax : IsPositive S (orientation R q a x)
              qax = sym (sign-scale S L O m.j _ j_pos) ∙ ap S.sign (only_right h e) ∙ O.sign-mul _ _ m.some h
