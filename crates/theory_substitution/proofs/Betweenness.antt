-- Points one after another along a segment from a: being between is transitive, and points between a and each other are one.
use Rattle.std.proofs.Common.{◌≡◌, ◌⊎◌, inl, inr, [], ◌∷◌, pos, negsuc, refl, ap, ◌∙◌}
use Rattle.theory_ring.specs.Ring.{Ops, Laws}
use Rattle.theory_ring.specs.Sign.{Signed, OrderLaws}
use Rattle.theory_ring.specs.Sign.{IsPositive, IsNonNegative}
use Rattle.theory_plane.specs.Plane.{PlanePoint}
use Rattle.theory_plane.specs.Segment.{Between}
use Rattle.theory_ring.proofs.Normaliser.{Expr, var, con, ring, ring_from, ◌⊕◌, ◌⊖◌, ◌⊗◌}
use Rattle.theory_ring.proofs.Signs.{nonneg_cases, nonneg_add, nonneg_mul, pos_nonneg}
use Rattle.theory_plane.proofs.Linear.{cancel}
use Rattle.theory_plane.proofs.Inside.{both_zero}

module _ (S : Signed) (L : Laws S.ops) (O : OrderLaws S) where
  abbrev R : Ops
  R = S.ops

  abbrev zero_of : R.carrier
  zero_of = R.int (pos 0)

  -- the weights of the first mean and of the second
  abbrev I : Expr
  I = var 0

  abbrev J : Expr
  J = var 1

  abbrev K : Expr
  K = var 2

  abbrev M : Expr
  M = var 3

  module _ (a d c : PlanePoint R.carrier) (h : Between S a d c) where
    module _ (e : PlanePoint R.carrier) (g : Between S a e d) where
      rest_nonneg : IsNonNegative S (R.add (R.mul h.i (R.add g.i g.j)) (R.mul h.j g.i))
      rest_nonneg = nonneg_add S L O _ _ (nonneg_mul S L O _ _ h.i_nonneg (pos_nonneg S L O _ g.some)) (nonneg_mul S L O _ _ h.j_nonneg g.i_nonneg)

      whole_is : R.add (R.add (R.mul h.i (R.add g.i g.j)) (R.mul h.j g.i)) (R.mul h.j g.j) ≡ R.mul (R.add h.i h.j) (R.add g.i g.j)
      whole_is = ring R L (h.i ∷ (h.j ∷ (g.i ∷ (g.j ∷ [])))) ((I ⊗ (K ⊕ M) ⊕ J ⊗ K) ⊕ J ⊗ M) ((I ⊕ J) ⊗ (K ⊕ M)) refl

      one_way : (x y z w : R.carrier) → R.mul (R.add h.i h.j) y ≡ R.add (R.mul h.i x) (R.mul h.j z)
          → R.mul (R.add g.i g.j) z ≡ R.add (R.mul g.i x) (R.mul g.j w)
          → R.mul (R.add (R.add (R.mul h.i (R.add g.i g.j)) (R.mul h.j g.i)) (R.mul h.j g.j)) y ≡ R.add
          (R.mul (R.add (R.mul h.i (R.add g.i g.j)) (R.mul h.j g.i)) x) (R.mul (R.mul h.j g.j) w)
      one_way x y z w p q =
          ring_from R L (h.i ∷ (h.j ∷ (g.i ∷ (g.j ∷ (x ∷ (y ∷ (z ∷ (w ∷ []))))))))
          (((I ⊗ (K ⊕ M) ⊕ J ⊗ K) ⊕ J ⊗ M) ⊗ var 5) ((I ⊗ (K ⊕ M) ⊕ J ⊗ K) ⊗ var 4 ⊕ (J ⊗ M) ⊗ var 7)
          ((K ⊕ M, (I ⊕ J) ⊗ var 5, I ⊗ var 4 ⊕ J ⊗ var 6) ∷ ((J, (K ⊕ M) ⊗ var 6, K ⊗ var 4 ⊕ M ⊗ var 7) ∷ [])) (p, (q, tt)) refl

      -- c between a and d, and d between a and e
      pub between-trans : Between S a e c
      between-trans = record {
        i = R.add (R.mul h.i (R.add g.i g.j)) (R.mul h.j g.i);
        j = R.mul h.j g.j;
        i_nonneg = rest_nonneg;
        j_nonneg = nonneg_mul S L O _ _ h.j_nonneg g.j_nonneg;
        some = ap S.sign whole_is ∙ O.sign-mul _ _ h.some g.some;
        at_x = one_way a.x c.x d.x e.x h.at_x g.at_x;
        at_y = one_way a.y c.y d.y e.y h.at_y g.at_y;
      }

    -- c between a and d, and d between a and c: one point
    pub between-antisym : Between S a c d → (c.x ≡ d.x) × (c.y ≡ d.y)
    between-antisym g = at_case (nonneg_cases S L O rest (nonneg_add S L O _ _ one two))
      where
        rest : R.carrier
        rest = R.add (R.mul h.i (R.add g.i g.j)) (R.mul h.j g.i)

        one : IsNonNegative S (R.mul h.i (R.add g.i g.j))
        one = nonneg_mul S L O _ _ h.i_nonneg (pos_nonneg S L O _ g.some)

        two : IsNonNegative S (R.mul h.j g.i)
        two = nonneg_mul S L O _ _ h.j_nonneg g.i_nonneg

        -- where `rest` is positive, both are a
        apart : IsPositive S (R.add (R.mul h.i (R.add g.i g.j)) (R.mul h.j g.i)) → (x y z : R.carrier)
            → R.mul (R.add h.i h.j) y ≡ R.add (R.mul h.i x) (R.mul h.j z)
            → R.mul (R.add g.i g.j) z ≡ R.add (R.mul g.i x) (R.mul g.j y) → y ≡ z
        apart k x y z p q = cancel S L O (R.add g.i g.j) y z g.some (
            ring_from R L (h.i ∷ (h.j ∷ (g.i ∷ (g.j ∷ (x ∷ (y ∷ (z ∷ []))))))) ((K ⊕ M) ⊗ (var 5 ⊖ var 6)) (con (pos 0))
            ((con (negsuc 0), (K ⊕ M) ⊗ var 6, K ⊗ var 4 ⊕ M ⊗ var 5) ∷ ((K, var 5, var 4) ∷ [])) (q, (at_a, tt)) refl)
          where
            at_a : y ≡ x
            at_a = cancel S L O (R.add (R.mul h.i (R.add g.i g.j)) (R.mul h.j g.i)) y x k (
                ring_from R L (h.i ∷ (h.j ∷ (g.i ∷ (g.j ∷ (x ∷ (y ∷ (z ∷ []))))))) ((I ⊗ (K ⊕ M) ⊕ J ⊗ K) ⊗ (var 5 ⊖ var 4)) (con (pos 0))
                ((K ⊕ M, (I ⊕ J) ⊗ var 5, I ⊗ var 4 ⊕ J ⊗ var 6) ∷ ((J, (K ⊕ M) ⊗ var 6, K ⊗ var 4 ⊕ M ⊗ var 5) ∷ [])) (p, (q, tt)) refl)

        -- where i is 0 the first equation says that c is d
        level : h.i ≡ zero_of → (x y z : R.carrier) → R.mul (R.add h.i h.j) y ≡ R.add (R.mul h.i x) (R.mul h.j z) → y ≡ z
        level e x y z p = cancel S L O (R.add h.i h.j) y z h.some (
            ring_from R L (h.i ∷ (h.j ∷ (x ∷ (y ∷ (z ∷ []))))) ((I ⊕ J) ⊗ (var 3 ⊖ var 4)) (con (pos 0))
            ((con (pos 1), (I ⊕ J) ⊗ var 3, I ⊗ var 2 ⊕ J ⊗ var 4) ∷ ((var 2 ⊖ var 4, I, con (pos 0)) ∷ [])) (p, (e, tt)) refl)

        zero_left : R.mul h.i (R.add g.i g.j) ≡ zero_of → h.i ≡ zero_of
        zero_left e = cancel S L O (R.add g.i g.j) h.i zero_of g.some (
            ring_from R L (h.i ∷ (g.i ∷ (g.j ∷ []))) ((var 1 ⊕ var 2) ⊗ (var 0 ⊖ con (pos 0))) (con (pos 0))
            ((con (pos 1), var 0 ⊗ (var 1 ⊕ var 2), con (pos 0)) ∷ []) (e, tt) refl)

        at_case : IsPositive S rest ⊎ (rest ≡ zero_of) → (c.x ≡ d.x) × (c.y ≡ d.y)
        at_case (inl k) = (apart k a.x c.x d.x h.at_x g.at_x, apart k a.y c.y d.y h.at_y g.at_y)
        at_case (inr e) =
            let z : h.i ≡ zero_of = zero_left (both_zero S L O _ _ one two e).0 in
            (level z a.x c.x d.x h.at_x, level z a.y c.y d.y h.at_y)
