-- Around the vertices of a triangle, and the two ways along an edge: how the sign of an orientation changes.
use Rattle.std.proofs.Common.{◌≡◌, [], ◌∷◌, pos, refl, ap, ◌∙◌}
use Rattle.theory_ring.specs.Ring.{Ops, Laws}
use Rattle.theory_ring.specs.Sign.{Signed, OrderLaws}
use Rattle.theory_plane.specs.Plane.{PlanePoint, orientation}
use Rattle.std.specs.Ordering.{ordering_reverse}
use Rattle.std.specs.declared.cmp.Ordering.TheVariants.{Equal}
use Rattle.theory_ring.proofs.Normaliser.{Expr, var, con, neg, exprs, ring}

module _ (S : Signed) (L : Laws S.ops) (O : OrderLaws S) where
  abbrev R : Ops
  R = S.ops

  abbrev A : PlanePoint Expr
  A = record { x = var 0; y = var 1 }

  abbrev B : PlanePoint Expr
  B = record { x = var 2; y = var 3 }

  abbrev C : PlanePoint Expr
  C = record { x = var 4; y = var 5 }

  pub orientation-back : (a b c : PlanePoint R.carrier) → S.sign (orientation R b a c) ≡ ordering_reverse (S.sign (orientation R a b c))
  orientation-back a b c =
      ap S.sign (ring R L (a.x ∷ (a.y ∷ (b.x ∷ (b.y ∷ (c.x ∷ (c.y ∷ [])))))) (orientation exprs B A C)
      (neg (orientation exprs A B C)) refl) ∙ O.sign-neg _

  pub orientation-rotated : (a b c : PlanePoint R.carrier) → orientation R b c a ≡ orientation R a b c
  orientation-rotated a b c = ring R L (a.x ∷ (a.y ∷ (b.x ∷ (b.y ∷ (c.x ∷ (c.y ∷ [])))))) (orientation exprs B C A) (orientation exprs A B C) refl

  pub orientation-start : (a b : PlanePoint R.carrier) → S.sign (orientation R a b a) ≡ Equal
  orientation-start a b = ap S.sign (ring R L (a.x ∷ (a.y ∷ (b.x ∷ (b.y ∷ [])))) (orientation exprs A B A) (con (pos 0)) refl) ∙ O.zero_equal

  pub orientation-end : (a b : PlanePoint R.carrier) → S.sign (orientation R a b b) ≡ Equal
  orientation-end a b = ap S.sign (ring R L (a.x ∷ (a.y ∷ (b.x ∷ (b.y ∷ [])))) (orientation exprs A B B) (con (pos 0)) refl) ∙ O.zero_equal

  pub orientation-none : (a c : PlanePoint R.carrier) → S.sign (orientation R a a c) ≡ Equal
  orientation-none a c = ap S.sign (ring R L (a.x ∷ (a.y ∷ (c.x ∷ (c.y ∷ [])))) (orientation exprs A A B) (con (pos 0)) refl) ∙ O.zero_equal
