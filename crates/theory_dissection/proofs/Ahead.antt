-- An edge that lies along another: it has its direction, so the same points are left of both.
use Rattle.std.proofs.Common.{◌≡◌, inl, inr, ◌⊎◌, [], ◌∷◌, pos, refl, sym, ap, ◌∙◌}
use Rattle.theory_ring.specs.Ring.{Ops, Laws, difference}
use Rattle.theory_ring.specs.Sign.{Signed, OrderLaws, IsPositive, IsNonNegative}
use Rattle.theory_plane.specs.Plane.{PlanePoint, orientation}
use Rattle.theory_plane.specs.Segment.{Between}
use Rattle.theory_ring.proofs.Normaliser.{Expr, var, con, neg, exprs, ring, ring_from, ◌⊕◌, ◌⊖◌, ◌⊗◌}
use Rattle.theory_ring.proofs.Signs.{nonneg_cases, nonneg_add, nonneg_mul, sign-scale}
use Rattle.theory_plane.proofs.Linear.{cancel}

-- a→b has the direction of c→d: p (b - a) = q (d - c) for positive p and q, and a is on the line: p (a - c) = s (d - c), where s isn't negative
pub record Ahead (S : Signed) (c d a b : PlanePoint S.ops.carrier) : Type 0 where
  pub p : S.ops.carrier
  pub q : S.ops.carrier
  pub s : S.ops.carrier
  pub p_pos : IsPositive S p
  pub q_pos : IsPositive S q
  pub s_nonneg : IsNonNegative S s
  pub run-x : S.ops.mul p (difference S.ops b.x a.x) ≡ S.ops.mul q (difference S.ops d.x c.x)
  pub run-y : S.ops.mul p (difference S.ops b.y a.y) ≡ S.ops.mul q (difference S.ops d.y c.y)
  pub start-x : S.ops.mul p (difference S.ops a.x c.x) ≡ S.ops.mul s (difference S.ops d.x c.x)
  pub start-y : S.ops.mul p (difference S.ops a.y c.y) ≡ S.ops.mul s (difference S.ops d.y c.y)
  -- what is left from b to d: p (d - b) = rest (d - c)
  pub rest : S.ops.carrier
  pub rest_nonneg : IsNonNegative S rest
  pub whole : p ≡ S.ops.add (S.ops.add s q) rest

module _ (S : Signed) (L : Laws S.ops) (O : OrderLaws S) where
  abbrev R : Ops
  R = S.ops

  abbrev zero_of : R.carrier
  zero_of = R.int (pos 0)

  -- b is a mean of c and d, and a of c and b, and a and b are two points
  pub ahead : (c d a b : PlanePoint R.carrier) → Between S c d b → Between S c b a → ((b.x ≡ a.x) → (b.y ≡ a.y) → ⊥) → Ahead S c d a b
  ahead c d a b h g apart = record {
    p = p;
    q = R.mul g.i h.j;
    s = R.mul g.j h.j;
    p_pos = p_pos;
    q_pos = at_case (nonneg_cases S L O _ (nonneg_mul S L O _ _ g.i_nonneg h.j_nonneg));
    s_nonneg = nonneg_mul S L O _ _ g.j_nonneg h.j_nonneg;
    run-x = run a.x b.x c.x d.x h.at_x g.at_x;
    run-y = run a.y b.y c.y d.y h.at_y g.at_y;
    start-x = start a.x b.x c.x d.x h.at_x g.at_x;
    start-y = start a.y b.y c.y d.y h.at_y g.at_y;
    rest = R.mul (R.add g.i g.j) h.i;
    rest_nonneg = nonneg_mul S L O _ _ (nonneg_add S L O _ _ g.i_nonneg g.j_nonneg) h.i_nonneg;
    whole = ring R L (h.i ∷ (h.j ∷ (g.i ∷ (g.j ∷ [])))) ((var 0 ⊕ var 1) ⊗ (var 2 ⊕ var 3))
        ((var 3 ⊗ var 1 ⊕ var 2 ⊗ var 1) ⊕ (var 2 ⊕ var 3) ⊗ var 0) refl;
  }
    where
      p : R.carrier
      p = R.mul (R.add h.i h.j) (R.add g.i g.j)

      p_pos : IsPositive S p
      p_pos = O.sign-mul _ _ h.some g.some

      run : (a b c d : R.carrier) → R.mul (R.add h.i h.j) b ≡ R.add (R.mul h.i c) (R.mul h.j d)
          → R.mul (R.add g.i g.j) a ≡ R.add (R.mul g.i c) (R.mul g.j b)
          → R.mul p (difference R b a) ≡ R.mul (R.mul g.i h.j) (difference R d c)
      run a b c d e f =
          ring_from R L (h.i ∷ (h.j ∷ (g.i ∷ (g.j ∷ (a ∷ (b ∷ (c ∷ (d ∷ []))))))))
          (((var 0 ⊕ var 1) ⊗ (var 2 ⊕ var 3)) ⊗ (var 5 ⊖ var 4)) ((var 2 ⊗ var 1) ⊗ (var 7 ⊖ var 6))
          ((neg (var 0 ⊕ var 1), (var 2 ⊕ var 3) ⊗ var 4, var 2 ⊗ var 6 ⊕ var 3 ⊗ var 5)
          ∷ ((var 2, (var 0 ⊕ var 1) ⊗ var 5, var 0 ⊗ var 6 ⊕ var 1 ⊗ var 7) ∷ []))
          (f, (e, tt)) refl

      start : (a b c d : R.carrier) → R.mul (R.add h.i h.j) b ≡ R.add (R.mul h.i c) (R.mul h.j d)
          → R.mul (R.add g.i g.j) a ≡ R.add (R.mul g.i c) (R.mul g.j b)
          → R.mul p (difference R a c) ≡ R.mul (R.mul g.j h.j) (difference R d c)
      start a b c d e f =
          ring_from R L (h.i ∷ (h.j ∷ (g.i ∷ (g.j ∷ (a ∷ (b ∷ (c ∷ (d ∷ []))))))))
          (((var 0 ⊕ var 1) ⊗ (var 2 ⊕ var 3)) ⊗ (var 4 ⊖ var 6)) ((var 3 ⊗ var 1) ⊗ (var 7 ⊖ var 6))
          ((var 0 ⊕ var 1, (var 2 ⊕ var 3) ⊗ var 4, var 2 ⊗ var 6 ⊕ var 3 ⊗ var 5)
          ∷ ((var 3, (var 0 ⊕ var 1) ⊗ var 5, var 0 ⊗ var 6 ⊕ var 1 ⊗ var 7) ∷ []))
          (f, (e, tt)) refl

      -- were the multiple 0, the two points would be one
      at_case : IsPositive S (R.mul g.i h.j) ⊎ (R.mul g.i h.j ≡ zero_of) → IsPositive S (R.mul g.i h.j)
      at_case (inl k) = k
      at_case (inr e) = absurd (apart (same a.x b.x c.x d.x (run a.x b.x c.x d.x h.at_x g.at_x))
          (same a.y b.y c.y d.y (run a.y b.y c.y d.y h.at_y g.at_y)))
        where
          same : (a b c d : R.carrier) → R.mul p (difference R b a) ≡ R.mul (R.mul g.i h.j) (difference R d c) → b ≡ a
          same a b c d f =
              cancel S L O p b a p_pos (
              ring_from R L (p ∷ (R.mul g.i h.j ∷ (a ∷ (b ∷ (c ∷ (d ∷ [])))))) (var 0 ⊗ (var 3 ⊖ var 2)) (con (pos 0))
              ((con (pos 1), var 0 ⊗ (var 3 ⊖ var 2), var 1 ⊗ (var 5 ⊖ var 4)) ∷ ((var 5 ⊖ var 4, var 1, con (pos 0)) ∷ [])) (f, (e, tt)) refl)

  -- ---- the same points are left of both
  abbrev A : PlanePoint Expr
  A = record { x = var 0; y = var 1 }

  abbrev B : PlanePoint Expr
  B = record { x = var 2; y = var 3 }

  abbrev C : PlanePoint Expr
  C = record { x = var 4; y = var 5 }

  abbrev D : PlanePoint Expr
  D = record { x = var 6; y = var 7 }

  abbrev Z : PlanePoint Expr
  Z = record { x = var 8; y = var 9 }

  pub ahead-turns : (c d a b z : PlanePoint R.carrier) → Ahead S c d a b → S.sign (orientation R c d z) ≡ S.sign (orientation R a b z)
  ahead-turns c d a b z h =
      sym (sign-scale S L O h.q _ h.q_pos) ∙ sym (sign-scale S L O h.p _ h.p_pos)
      ∙ ap S.sign (
      ring_from R L (a.x ∷ (a.y ∷ (b.x ∷ (b.y ∷ (c.x ∷ (c.y ∷ (d.x ∷ (d.y ∷ (z.x ∷ (z.y ∷ (h.p ∷ (h.q ∷ (h.s ∷ [])))))))))))))
      (P ⊗ (Q ⊗ orientation exprs C D Z)) (P ⊗ (P ⊗ orientation exprs A B Z))
      ((neg (P ⊗ (Z.y ⊖ A.y)), P ⊗ (B.x ⊖ A.x), Q ⊗ (D.x ⊖ C.x)) ∷ ((P ⊗ (Z.x ⊖ A.x), P ⊗ (B.y ⊖ A.y), Q ⊗ (D.y ⊖ C.y))
      ∷ ((Q ⊗ (D.x ⊖ C.x), P ⊗ (A.y ⊖ C.y), var 12 ⊗ (D.y ⊖ C.y)) ∷ ((neg (Q ⊗ (D.y ⊖ C.y)), P ⊗ (A.x ⊖ C.x), var 12 ⊗ (D.x ⊖ C.x)) ∷ []))))
      (h.run-x, (h.run-y, (h.start-y, (h.start-x, tt)))) refl)
      ∙ sign-scale S L O h.p _ h.p_pos ∙ sign-scale S L O h.p _ h.p_pos
    where
      P : Expr
      P = var 10

      Q : Expr
      Q = var 11
