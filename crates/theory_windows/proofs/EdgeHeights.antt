-- The points of an edge that avoids an open box, at heights between those of two points of the box on one
-- vertical line: they are on one side of that line.
use Rattle.std.proofs.Common.{◌≡◌, [], ◌∷◌, pos, refl, sym, ap, ◌∙◌, subst, true, false, is_gt}
use Rattle.theory_ring.specs.Ring.{Ops, Laws, difference}
use Rattle.theory_ring.specs.Sign.{Signed, OrderLaws, IsPositive, IsNonNegative}
use Rattle.theory_plane.specs.Plane.{PlanePoint, TestPoint}
use Rattle.theory_plane.specs.Box.{OpenBox}
use Rattle.theory_ring.proofs.Normaliser.{var, con, neg, ring, ◌⊕◌, ◌⊖◌, ◌⊗◌}
use Rattle.theory_ring.proofs.Signs.{pos_nonneg, not_pos, pos_add_nonneg, nonneg_add, nonneg_mul}
use Rattle.theory_plane.proofs.Crossing.{above}
use Rattle.theory_plane.proofs.BoxHelly.{Weights}
use Rattle.theory_plane.proofs.BoxOverlap.{greater}
use Rattle.theory_windows.proofs.Avoiding.{together, zero_of, Avoids, over, over_expr, between_inside, zero_nn, neg_zero_nn, Strip}

module _ (S : Signed) (L : Laws S.ops) (O : OrderLaws S) where
  abbrev R : Ops
  R = S.ops

  module _ (box : OpenBox R.carrier) where
    module _ (Z : Strip S L O box) where
      open Z use {x, y1, y2, d, d_pos, in_x, in1, in2, order}

      abbrev pub lower : TestPoint R.carrier
      lower = record { x = x; y = y1; d = d }

      abbrev pub upper : TestPoint R.carrier
      upper = record { x = x; y = y2; d = d }

      -- a mean of the ends is at a height from y1 to y2
      pub record AtHeight (a b : PlanePoint R.carrier) (u : Weights S) : Type 0 where
        pub low : IsNonNegative S (over S L O y1 d a.y b.y u)
        pub high : IsNonNegative S (R.neg (over S L O y2 d a.y b.y u))

      -- k times u and l times v
      module _ (k l : R.carrier) (k_nn : IsNonNegative S k) (l_pos : IsPositive S l) (u v : Weights S) where
        abbrev mixed : Weights S
        mixed = record {
          i = R.add (R.mul k u.i) (R.mul l v.i);
          j = R.add (R.mul k u.j) (R.mul l v.j);
          i_nonneg = nonneg_add S L O _ _ (nonneg_mul S L O _ _ k_nn u.i_nonneg) (nonneg_mul S L O _ _ (pos_nonneg S L O _ l_pos) v.i_nonneg);
          j_nonneg = nonneg_add S L O _ _ (nonneg_mul S L O _ _ k_nn u.j_nonneg) (nonneg_mul S L O _ _ (pos_nonneg S L O _ l_pos) v.j_nonneg);
          some = ap S.sign (ring R L (k ∷ (l ∷ (u.i ∷ (u.j ∷ (v.i ∷ (v.j ∷ []))))))
              ((var 0 ⊗ var 2 ⊕ var 1 ⊗ var 4) ⊕ (var 0 ⊗ var 3 ⊕ var 1 ⊗ var 5)) (var 1 ⊗ (var 4 ⊕ var 5) ⊕ var 0 ⊗ (var 2 ⊕ var 3)) refl)
              ∙ pos_add_nonneg S L O _ _ (O.sign-mul _ _ l_pos v.some) (nonneg_mul S L O _ _ k_nn (pos_nonneg S L O _ u.some));
        }

        over-mixed : (z s t : R.carrier) → over S L O z d s t mixed ≡ R.add (R.mul k (over S L O z d s t u)) (R.mul l (over S L O z d s t v))
        over-mixed z s t = ring R L (z ∷ (d ∷ (s ∷ (t ∷ (u.i ∷ (u.j ∷ (v.i ∷ (v.j ∷ (k ∷ (l ∷ []))))))))))
            (var 1 ⊗ ((var 8 ⊗ var 4 ⊕ var 9 ⊗ var 6) ⊗ var 2 ⊕ (var 8 ⊗ var 5 ⊕ var 9 ⊗ var 7) ⊗ var 3) ⊖
            ((var 8 ⊗ var 4 ⊕ var 9 ⊗ var 6) ⊕ (var 8 ⊗ var 5 ⊕ var 9 ⊗ var 7)) ⊗ var 0)
            (var 8 ⊗ (var 1 ⊗ (var 4 ⊗ var 2 ⊕ var 5 ⊗ var 3) ⊖ (var 4 ⊕ var 5) ⊗ var 0) ⊕ var 9 ⊗
            (var 1 ⊗ (var 6 ⊗ var 2 ⊕ var 7 ⊗ var 3) ⊖ (var 6 ⊕ var 7) ⊗ var 0)) refl

        mixed-height : (a b : PlanePoint R.carrier) → AtHeight a b u → AtHeight a b v → AtHeight a b mixed
        mixed-height a b f g = record {
          low = subst (IsNonNegative S) (sym (over-mixed y1 a.y b.y))
              (nonneg_add S L O _ _ (nonneg_mul S L O _ _ k_nn f.low)
              (nonneg_mul S L O _ _ (pos_nonneg S L O _ l_pos) g.low));
          high = subst (IsNonNegative S) (sym (ap R.neg (over-mixed y2 a.y b.y)
              ∙ ring R L (k ∷ (l ∷ (over S L O y2 d a.y b.y u ∷ (over S L O y2 d a.y b.y v ∷ []))))
              (neg (var 0 ⊗ var 2 ⊕ var 1 ⊗ var 3)) (var 0 ⊗ neg (var 2) ⊕ var 1 ⊗ neg (var 3)) refl))
              (nonneg_add S L O _ _ (nonneg_mul S L O _ _ k_nn f.high) (nonneg_mul S L O _ _ (pos_nonneg S L O _ l_pos) g.high));
        }

      -- two points of the edge at these heights, one right of the vertical line and one not: the edge passes the line in the box
      passes_line : (a b : PlanePoint R.carrier) → Avoids S L O box a b → (u v : Weights S) → AtHeight a b u → AtHeight a b v
          → is_gt (S.sign (over S L O x d a.x b.x u)) ≡ true → is_gt (S.sign (over S L O x d a.x b.x v)) ≡ false → ⊥
      passes_line a b avoids u v f g e k =
          avoids w (
            between_inside S L O _ _ a.x b.x x x d w d_pos in_x in_x (zero_nn S L O _ on_line) (neg_zero_nn S L O _ on_line),
            between_inside S L O _ _ a.y b.y y1 y2 d w d_pos in1 in2 h.low h.high,
          )
        where
          right : IsPositive S (over S L O x d a.x b.x u)
          right = greater _ e

          left : IsNonNegative S (R.neg (over S L O x d a.x b.x v))
          left = not_pos S L O _ k

          w : Weights S
          w = mixed (R.neg (over S L O x d a.x b.x v)) (over S L O x d a.x b.x u) left right u v

          h : AtHeight a b w
          h = mixed-height (R.neg (over S L O x d a.x b.x v)) (over S L O x d a.x b.x u) left right u v a b f g

          on_line : over S L O x d a.x b.x w ≡ zero_of S L O
          on_line =
              over-mixed (R.neg (over S L O x d a.x b.x v)) (over S L O x d a.x b.x u) left right u v x a.x b.x
              ∙ ring R L (over S L O x d a.x b.x u ∷ (over S L O x d a.x b.x v ∷ [])) (neg (var 1) ⊗ var 0 ⊕ var 0 ⊗ var 1) (con (pos 0)) refl

      pub same_right : (a b : PlanePoint R.carrier) → Avoids S L O box a b → (u v : Weights S) → AtHeight a b u → AtHeight a b v
          → is_gt (S.sign (over S L O x d a.x b.x u)) ≡ is_gt (S.sign (over S L O x d a.x b.x v))
      same_right a b avoids u v f g = together _ _ (passes_line a b avoids u v f g) (passes_line a b avoids v u g f)

      -- the ends of the edge
      abbrev pub at_start : Weights S
      at_start = record {
        i = R.int (pos 1);
        j = zero_of S L O;
        i_nonneg = pos_nonneg S L O _ O.one_greater;
        j_nonneg = zero_nn S L O _ refl;
        some = ap S.sign (L.add_zero _) ∙ O.one_greater;
      }

      abbrev pub at_end : Weights S
      at_end = record {
        i = zero_of S L O;
        j = R.int (pos 1);
        i_nonneg = zero_nn S L O _ refl;
        j_nonneg = pos_nonneg S L O _ O.one_greater;
        some = ap S.sign (L.add_comm _ _ ∙ L.add_zero _) ∙ O.one_greater;
      }

      pub over-start : (z s t : R.carrier) → over S L O z d s t at_start ≡ difference R (R.mul d s) z
      over-start z s t = ring R L (z ∷ (d ∷ (s ∷ (t ∷ []))))
          (var 1 ⊗ (con (pos 1) ⊗ var 2 ⊕ con (pos 0) ⊗ var 3) ⊖ (con (pos 1) ⊕ con (pos 0)) ⊗ var 0)
          (var 1 ⊗ var 2 ⊖ var 0) refl

      pub over-end : (z s t : R.carrier) → over S L O z d s t at_end ≡ difference R (R.mul d t) z
      over-end z s t = ring R L (z ∷ (d ∷ (s ∷ (t ∷ []))))
          (var 1 ⊗ (con (pos 0) ⊗ var 2 ⊕ con (pos 1) ⊗ var 3) ⊖ (con (pos 0) ⊕ con (pos 1)) ⊗ var 0)
          (var 1 ⊗ var 3 ⊖ var 0) refl

      pub start-height : (a b : PlanePoint R.carrier) → above S L O a lower ≡ true → above S L O a upper ≡ false → AtHeight a b at_start
      start-height a b e f = record {
        low = subst (IsNonNegative S) (sym (over-start y1 a.y b.y)) (pos_nonneg S L O _ (greater _ e));
        high = subst (λ z. IsNonNegative S (R.neg z)) (sym (over-start y2 a.y b.y)) (not_pos S L O _ f);
      }

      pub end-height : (a b : PlanePoint R.carrier) → above S L O b lower ≡ true → above S L O b upper ≡ false → AtHeight a b at_end
      end-height a b e f = record {
        low = subst (IsNonNegative S) (sym (over-end y1 a.y b.y)) (pos_nonneg S L O _ (greater _ e));
        high = subst (λ z. IsNonNegative S (R.neg z)) (sym (over-end y2 a.y b.y)) (not_pos S L O _ f);
      }

      -- the points of a rising edge at the two heights
      over-moved : (a b : PlanePoint R.carrier) (u : Weights S)
          → R.neg (over S L O y2 d a.y b.y u) ≡ R.add (R.mul (R.add u.i u.j) (difference R y2 y1))
          (R.neg (over S L O y1 d a.y b.y u))
      over-moved a b u = ring R L (y1 ∷ (d ∷ (a.y ∷ (b.y ∷ (u.i ∷ (u.j ∷ (y2 ∷ [])))))))
          (neg (over_expr S L O (var 6))) ((var 4 ⊕ var 5) ⊗ (var 6 ⊖ var 0) ⊕ neg (over_expr S L O (var 0))) refl

      moved_back : (a b : PlanePoint R.carrier) (u : Weights S)
          → over S L O y1 d a.y b.y u ≡ R.add (R.mul (R.add u.i u.j) (difference R y2 y1))
          (over S L O y2 d a.y b.y u)
      moved_back a b u = ring R L (y1 ∷ (d ∷ (a.y ∷ (b.y ∷ (u.i ∷ (u.j ∷ (y2 ∷ [])))))))
          (over_expr S L O (var 0)) ((var 4 ⊕ var 5) ⊗ (var 6 ⊖ var 0) ⊕ over_expr S L O (var 6)) refl

      gap : (u : Weights S) → IsNonNegative S (R.mul (R.add u.i u.j) (difference R y2 y1))
      gap u = nonneg_mul S L O _ _ (pos_nonneg S L O _ u.some) order

      pub lower-height : (a b : PlanePoint R.carrier) (u : Weights S) → over S L O y1 d a.y b.y u ≡ zero_of S L O → AtHeight a b u
      lower-height a b u e = record {
        low = zero_nn S L O _ e;
        high = subst (IsNonNegative S) (sym (over-moved a b u)) (nonneg_add S L O _ _ (gap u) (neg_zero_nn S L O _ e));
      }

      pub upper-height : (a b : PlanePoint R.carrier) (u : Weights S) → over S L O y2 d a.y b.y u ≡ zero_of S L O → AtHeight a b u
      upper-height a b u e = record {
        low = subst (IsNonNegative S) (sym (moved_back a b u)) (nonneg_add S L O _ _ (gap u) (zero_nn S L O _ e));
        high = neg_zero_nn S L O _ e;
      }
