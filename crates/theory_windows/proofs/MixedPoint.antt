-- A point between a point of a triangle's edge and the triangle's middle is in the triangle.
use Rattle.std.proofs.Common.{◌≡◌, List, [], ◌∷◌, pos, refl, sym, ap, ◌∙◌, is_lt}
use Rattle.theory_ring.specs.Ring.{Ops, Laws}
use Rattle.theory_ring.specs.Sign.{Signed, OrderLaws, IsPositive, IsNonNegative}
use Rattle.theory_plane.specs.Plane.{PlanePoint, TestPoint, side, orientation}
use Rattle.theory_plane.specs.Segment.{Between}
use Rattle.theory_plane.specs.Box.{scaled}
use Rattle.theory_ring.proofs.Normaliser.{Expr, var, con, neg, exprs, ring, ring_from, ◌⊕◌, ◌⊖◌, ◌⊗◌}
use Rattle.theory_ring.proofs.Signs.{pos_nonneg, pos_add_nonneg, nonneg_mul, sign-scale}
use Rattle.theory_plane.proofs.BoxPoints.{whole_positive}
use Rattle.theory_plane.proofs.Triangle.{edge_sum}
use Rattle.theory_dissection.proofs.CommonPoint.{inside-count}

module _ (S : Signed) (L : Laws S.ops) (O : OrderLaws S) where
  abbrev R : Ops
  R = S.ops

  -- ---- between a point q of the edge a→b and the triangle's middle
  module _ (a b c : PlanePoint R.carrier) (q : TestPoint R.carrier) (k : R.carrier) where
    -- k times q and the three vertices together
    abbrev pub mixed : TestPoint R.carrier
    mixed = record {
      x = R.add (R.mul k q.x) (R.add (R.add a.x b.x) c.x);
      y = R.add (R.mul k q.y) (R.add (R.add a.y b.y) c.y);
      d = R.add (R.mul k q.d) (R.int (pos 3));
    }

    abbrev all : List R.carrier
    all = a.x ∷ (a.y ∷ (b.x ∷ (b.y ∷ (c.x ∷ (c.y ∷ (q.x ∷ (q.y ∷ (q.d ∷ (k ∷ [])))))))))

    abbrev A : PlanePoint Expr
    A = record { x = var 0; y = var 1 }

    abbrev B : PlanePoint Expr
    B = record { x = var 2; y = var 3 }

    abbrev C : PlanePoint Expr
    C = record { x = var 4; y = var 5 }

    abbrev Q : TestPoint Expr
    Q = record { x = var 6; y = var 7; d = var 8 }

    abbrev M : TestPoint Expr
    M = record { x = var 9 ⊗ var 6 ⊕ (var 0 ⊕ var 2 ⊕ var 4); y = var 9 ⊗ var 7 ⊕ (var 1 ⊕ var 3 ⊕ var 5); d = var 9 ⊗ var 8 ⊕ con (pos 3) }

    first_side : side R a b mixed ≡ R.add (orientation R a b c) (R.mul k (side R a b q))
    first_side = ring R L all (side exprs A B M) (orientation exprs A B C ⊕ var 9 ⊗ side exprs A B Q) refl

    second_side : side R b c mixed ≡ R.add (orientation R a b c) (R.mul k (side R b c q))
    second_side = ring R L all (side exprs B C M) (orientation exprs A B C ⊕ var 9 ⊗ side exprs B C Q) refl

    third_side : side R c a mixed ≡ R.add (orientation R a b c) (R.mul k (side R c a q))
    third_side = ring R L all (side exprs C A M) (orientation exprs A B C ⊕ var 9 ⊗ side exprs C A Q) refl

    module _ (q_pos : IsPositive S q.d) (k_pos : IsPositive S k) (left : IsPositive S (orientation R a b c))
        (on : Between S (scaled R q.d a) (scaled R q.d b) (record { x = q.x; y = q.y })) where
      abbrev I : Expr
      I = var 10

      abbrev J : Expr
      J = var 11

      more : List R.carrier
      more = a.x ∷ (a.y ∷ (b.x ∷ (b.y ∷ (c.x ∷ (c.y ∷ (q.x ∷ (q.y ∷ (q.d ∷ (k ∷ (on.i ∷ (on.j ∷ [])))))))))))

      -- the sides of q, a mean of a and b
      on_first : R.mul (R.add on.i on.j) (side R a b q) ≡ R.int (pos 0)
      unfolding more
      on_first = ring_from R L more ((I ⊕ J) ⊗ side exprs A B Q) (con (pos 0))
          ((B.x ⊖ A.x, (I ⊕ J) ⊗ var 7, I ⊗ (var 8 ⊗ A.y) ⊕ J ⊗ (var 8 ⊗ B.y))
          ∷ ((neg (B.y ⊖ A.y), (I ⊕ J) ⊗ var 6, I ⊗ (var 8 ⊗ A.x) ⊕ J ⊗ (var 8 ⊗ B.x)) ∷ []))
          (on.at_y, (on.at_x, tt)) refl

      on_second : R.mul (R.add on.i on.j) (side R b c q) ≡ R.mul on.i (R.mul q.d (orientation R a b c))
      unfolding more
      on_second = ring_from R L more ((I ⊕ J) ⊗ side exprs B C Q) (I ⊗ (var 8 ⊗ orientation exprs A B C))
          ((C.x ⊖ B.x, (I ⊕ J) ⊗ var 7, I ⊗ (var 8 ⊗ A.y) ⊕ J ⊗ (var 8 ⊗ B.y))
          ∷ ((neg (C.y ⊖ B.y), (I ⊕ J) ⊗ var 6, I ⊗ (var 8 ⊗ A.x) ⊕ J ⊗ (var 8 ⊗ B.x)) ∷ []))
          (on.at_y, (on.at_x, tt)) refl

      on_third : R.mul (R.add on.i on.j) (side R c a q) ≡ R.mul on.j (R.mul q.d (orientation R a b c))
      unfolding more
      on_third = ring_from R L more ((I ⊕ J) ⊗ side exprs C A Q) (J ⊗ (var 8 ⊗ orientation exprs A B C))
          ((A.x ⊖ C.x, (I ⊕ J) ⊗ var 7, I ⊗ (var 8 ⊗ A.y) ⊕ J ⊗ (var 8 ⊗ B.y))
          ∷ ((neg (A.y ⊖ C.y), (I ⊕ J) ⊗ var 6, I ⊗ (var 8 ⊗ A.x) ⊕ J ⊗ (var 8 ⊗ B.x)) ∷ []))
          (on.at_y, (on.at_x, tt)) refl

      lifted : (s t : R.carrier) → R.mul (R.add on.i on.j) s ≡ t → IsNonNegative S t → IsNonNegative S s
      lifted s t e h = ap is_lt (sym (sign-scale S L O (R.add on.i on.j) s on.some) ∙ ap S.sign e) ∙ h

      strictly : (s t : R.carrier) → t ≡ R.add (orientation R a b c) (R.mul k s) → IsNonNegative S s → IsPositive S t
      strictly s t e h = ap S.sign e ∙ pos_add_nonneg S L O _ _ left (nonneg_mul S L O _ _ (pos_nonneg S L O _ k_pos) h)

      weighted : (i : R.carrier) → IsNonNegative S i → IsNonNegative S (R.mul i (R.mul q.d (orientation R a b c)))
      weighted i h = nonneg_mul S L O _ _ h (pos_nonneg S L O _ (O.sign-mul _ _ q_pos left))

      mixed_d : IsPositive S (R.add (R.mul k q.d) (R.int (pos 3)))
      mixed_d = O.sign-add _ _ (O.sign-mul _ _ k_pos q_pos) (whole_positive S L O 2)

      pub mixed-inside : edge_sum S a b c mixed ≡ pos 1
      mixed-inside = inside-count S L O a b c mixed mixed_d left
          (strictly _ _ first_side (lifted _ _ on_first (ap is_lt O.zero_equal)))
          (strictly _ _ second_side (lifted _ _ on_second (weighted on.i on.i_nonneg)))
          (strictly _ _ third_side (lifted _ _ on_third (weighted on.j on.j_nonneg)))
