-- The crossing about a ring point, by heights and the side.
use Rattle.std.proofs.Common.{◌≡◌, [], ◌∷◌, pos, refl, ap, ap₂, ◌∙◌, Bool, true, false, not, Ordering}
use Rattle.theory_ring.specs.Ring.{Ops, Laws}
use Rattle.theory_ring.specs.Sign.{Signed}
use Rattle.theory_ring.proofs.Normaliser.{Expr, var, con, exprs, ring, ◌⊗◌}
use Rattle.theory_ring.specs.Sign.{less}
use Rattle.theory_plane.specs.Plane.{PlanePoint, test_point, side, orientation}
use Rattle.theory_plane.specs.Crossing.{crossing, crossing_of}

abbrev A : PlanePoint Expr
A = record { x = var 0; y = var 1 }

abbrev B : PlanePoint Expr
B = record { x = var 2; y = var 3 }

abbrev C : PlanePoint Expr
C = record { x = var 4; y = var 5 }

module _ (S : Signed) (L : Laws S.ops) (a b p : PlanePoint S.ops.carrier) where
  abbrev R : Ops
  R = S.ops

  one_times : (y : R.carrier) → R.mul (R.int (pos 1)) y ≡ y
  one_times y = ring R L (y ∷ []) (con (pos 1) ⊗ var 0) (var 0) refl

  side-orientation : side R a b (test_point R p) ≡ orientation R a b p
  side-orientation =
      ring R L (a.x ∷ (a.y ∷ (b.x ∷ (b.y ∷ (p.x ∷ (p.y ∷ [])))))) (side exprs A B (test_point exprs C)) (orientation exprs A B C) refl

  pub crossing-heights : crossing S a b (test_point R p) ≡ crossing_of (less S p.y a.y) (less S p.y b.y) (S.sign (orientation R a b p))
  crossing-heights =
      ap₂ (λ u v. crossing_of (less S p.y u) (less S p.y v) (S.sign (side R a b (test_point R p)))) (one_times a.y) (one_times b.y)
      ∙ ap (λ s. crossing_of (less S p.y a.y) (less S p.y b.y) (S.sign s)) side-orientation

  -- an edge whose ends are both above the point, or neither
  pub crossing-level : less S p.y a.y ≡ less S p.y b.y → crossing S a b (test_point R p) ≡ pos 0
  crossing-level e = crossing-heights ∙ ap (λ u. crossing_of u (less S p.y b.y) (S.sign (orientation R a b p))) e ∙ level (less S p.y b.y) _
    where
      level : (u : Bool) (o : Ordering) → crossing_of u u o ≡ pos 0
      level true o = refl
      level false o = refl

  -- an edge that starts above the point just where it doesn't end above it
  pub crossing-directed : less S p.y a.y ≡ not (less S p.y b.y)
      → crossing S a b (test_point R p) ≡ crossing_of (not (less S p.y b.y)) (less S p.y b.y)
      (S.sign (orientation R a b p))
  crossing-directed h = crossing-heights ∙ ap (λ u. crossing_of u (less S p.y b.y) (S.sign (orientation R a b p))) h
