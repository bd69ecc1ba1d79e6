-- The polygon of a growing patch at a depth. The depth is enough if and only if this polygon holds the centre
-- and none of its edges meets the window.
use Rattle.std.specs.Prelude.{◌⊎◌, ◌↔◌, ℕ, IsTrue}
use Rattle.std.specs.List.{AllByRecursion}
use Rattle.theory_ring.specs.Sign.{Signed}
use Rattle.theory_plane.specs.Plane.{TestPoint, IsTestPoint, test_point}
use Rattle.theory_plane.specs.Crossing.{member}
use Rattle.theory_plane.specs.Segment.{along}
use Rattle.theory_plane.specs.Box.{OpenBox}
use Rattle.theory_addresses.specs.Search.{IsAmong}
use Rattle.theory_windows.specs.Outlines.{PlaneEdge, Polygon, edges, MeetsBox}
use Rattle.theory_windows.specs.GrowingPatch.{GrowingPatch, IsOfDepth, IsInner}
use Rattle.theory_windows.specs.EnoughDepth.{IsEnough}

-- e is an edge of a tile of the patch at depth n, and no tile at that depth has its reverse for an edge
pub record IsOnBoundaryAt (S : Signed) (T : Type 0) (F : GrowingPatch S T) (n : ℕ)
    (e : PlaneEdge S) : Type 0 where
  pub tile : T
  pub of_depth : IsOfDepth S T F n tile
  pub of_tile : IsAmong e (edges (F.patch.outline tile))
  pub not_inner : ¬ IsInner S T F n e

-- The polygon is that of the patch at depth n. It holds exactly the points of the tiles. Each edge of a tile
-- is inner or lies along an edge of it. If an edge of it meets a box, an edge of a tile on the boundary does.
pub record IsWholeOf (S : Signed) (T : Type 0) (F : GrowingPatch S T) (n : ℕ)
    (whole : Polygon S) : Type 0 where
  pub holds : (p : TestPoint S.ops.carrier) → IsTestPoint S p
      → IsTrue (member S whole p) ↔ ((t : T) × IsOfDepth S T F n t × IsTrue (member S (F.patch.outline t) p))
  pub inner_or_along : (t : T) → IsOfDepth S T F n t → (e : PlaneEdge S)
      → IsAmong e (edges (F.patch.outline t))
      → IsInner S T F n e ⊎
      ((w : PlaneEdge S) × IsAmong w (edges whole) × IsTrue (along S w.from w.to e.from e.to))
  pub boundary_meets : (box : OpenBox S.ops.carrier) (w : PlaneEdge S) → IsAmong w (edges whole)
      → MeetsBox S box w
      → (e : PlaneEdge S) × IsOnBoundaryAt S T F n e × MeetsBox S box e

-- the polygon holds the centre and none of its edges meets the window
pub record HoldsWindow (S : Signed) (box : OpenBox S.ops.carrier) (whole : Polygon S) : Type 0 where
  pub holds_centre : IsTrue (member S whole (test_point S.ops box.centre))
  pub none_meets : AllByRecursion (λ w. ¬ MeetsBox S box w) (edges whole)

abbrev pub EnoughByPolygon : Signed → Type 0 → Type 0
EnoughByPolygon S T =
    (F : GrowingPatch S T) (box : OpenBox S.ops.carrier) (n : ℕ) (whole : Polygon S) → IsWholeOf S T F n whole
    → IsEnough S T F box n ↔ HoldsWindow S box whole
