-- The least depth of a growing patch that is enough for a point: the point is on no edge of the patch's
-- boundary there.
use Rattle.std.specs.Prelude.{ℕ, ◌≤◌, IsTrue}
use Rattle.theory_ring.specs.Sign.{Signed}
use Rattle.theory_plane.specs.Plane.{PlanePoint}
use Rattle.theory_plane.specs.Segment.{on_segment}
use Rattle.theory_addresses.specs.Search.{IsAmong}
use Rattle.theory_windows.specs.Outlines.{PlaneEdge, edges}
use Rattle.theory_windows.specs.GrowingPatch.{GrowingPatch, IsOfDepth, IsInner}

-- v is on no edge on the boundary of the patch at depth n
abbrev pub IsEnoughAt : (S : Signed) (T : Type 0) → GrowingPatch S T → PlanePoint S.ops.carrier → ℕ → Type 0
IsEnoughAt S T F v n =
    (t : T) → IsOfDepth S T F n t → (e : PlaneEdge S) → IsAmong e (edges (F.patch.outline t))
    → IsTrue (on_segment S e.from e.to v) → IsInner S T F n e

-- n is the least depth from m on that is enough for v
pub record IsLeastEnoughAt (S : Signed) (T : Type 0) (F : GrowingPatch S T) (v : PlanePoint S.ops.carrier)
    (m n : ℕ) : Type 0 where
  pub not_below : m ≤ n
  pub enough : IsEnoughAt S T F v n
  pub least : (k : ℕ) → m ≤ k → IsEnoughAt S T F v k → n ≤ k
