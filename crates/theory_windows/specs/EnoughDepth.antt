-- The least depth of a growing patch that is enough for a window, and the tiles drawn there.
use Rattle.std.specs.Prelude.{◌↔◌, ℕ, ◌≤◌, List, IsTrue}
use Rattle.std.specs.List.{AllByRecursion}
use Rattle.theory_ring.specs.Sign.{Signed}
use Rattle.theory_plane.specs.Plane.{test_point}
use Rattle.theory_plane.specs.Crossing.{member}
use Rattle.theory_plane.specs.Box.{OpenBox}
use Rattle.theory_addresses.specs.Search.{IsAmong}
use Rattle.theory_windows.specs.Distinct.{AreDistinct}
use Rattle.theory_windows.specs.Outlines.{PlaneEdge, edges, MeetsBox}
use Rattle.theory_windows.specs.Meeting.{PolygonMeetsBox}
use Rattle.theory_windows.specs.GrowingPatch.{GrowingPatch, IsOfDepth, IsInner}

-- the patch at depth n holds the centre, and no edge on its boundary meets the window
pub record IsEnough (S : Signed) (T : Type 0) (F : GrowingPatch S T) (box : OpenBox S.ops.carrier)
    (n : ℕ) : Type 0 where
  pub holds_centre : (t : T) × IsOfDepth S T F n t
      × IsTrue (member S (F.patch.outline t) (test_point S.ops box.centre))
  pub none_on_boundary : (t : T) → IsOfDepth S T F n t → (e : PlaneEdge S)
      → IsAmong e (edges (F.patch.outline t)) → MeetsBox S box e → IsInner S T F n e

-- these are the tiles of the patch at depth n that meet the window, each exactly once
pub record AreDrawnAtDepth (S : Signed) (T : Type 0) (F : GrowingPatch S T) (box : OpenBox S.ops.carrier)
    (n : ℕ) (found : List T) : Type 0 where
  pub of_depth : AllByRecursion (IsOfDepth S T F n) found
  pub distinct : AreDistinct found
  pub meeting : (t : T) → IsOfDepth S T F n t → PolygonMeetsBox S box (F.patch.outline t) ↔ IsAmong t found

-- n is the least enough depth from m on
pub record IsLeastEnough (S : Signed) (T : Type 0) (F : GrowingPatch S T) (box : OpenBox S.ops.carrier)
    (m n : ℕ) : Type 0 where
  pub not_below : m ≤ n
  pub enough : IsEnough S T F box n
  pub least : (k : ℕ) → m ≤ k → IsEnough S T F box k → n ≤ k

-- n is not beyond any enough depth from m on
pub record IsNotBeyond (S : Signed) (T : Type 0) (F : GrowingPatch S T) (box : OpenBox S.ops.carrier)
    (m n : ℕ) : Type 0 where
  pub not_below : m ≤ n
  pub not_beyond : (k : ℕ) → m ≤ k → IsEnough S T F box k → n ≤ k
