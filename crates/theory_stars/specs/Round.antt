-- The tiles around a point of a patch, and the theorem of the turn.
use Rattle.std.specs.Prelude.{◌≡◌, ◌⊎◌, List, ◌∷◌, IsTrue}
use Rattle.theory_ring.specs.Sign.{Signed}
use Rattle.theory_plane.specs.Plane.{PlanePoint}
use Rattle.theory_plane.specs.Segment.{on_segment}
use Rattle.theory_addresses.specs.Search.{IsAmong}
use Rattle.theory_windows.specs.Distinct.{AreDistinct}
use Rattle.theory_windows.specs.Outlines.{PlaneEdge, Polygon, edges}
use Rattle.theory_windows.specs.Patch.{Patch, IsDissected}
use Rattle.theory_stars.specs.Corners.{Corner, IsCornerAt, IsTurn, corner_tiles}

-- exactly the tiles that have v as a vertex, each exactly once and with that vertex
pub record IsRound (S : Signed) (T : Type 0) (P : Patch S T) (v : PlanePoint S.ops.carrier)
    (corners : List (Corner T)) : Type 0 where
  pub each_once : AreDistinct (corner_tiles corners)
  pub at_vertex : (c : Corner T) → IsAmong c corners → IsCornerAt S T P v c
  pub all : (c : Corner T) → IsCornerAt S T P v c → IsAmong c corners

-- the vertices of a polygon are distinct, and each lies on no edge but those that it starts and ends
pub record IsSimple (S : Signed) (polygon : Polygon S) : Type 0 where
  pub distinct : AreDistinct polygon
  pub apart : (v : PlanePoint S.ops.carrier) → IsAmong v polygon → (e : PlaneEdge S)
      → IsAmong e (edges polygon)
      → IsTrue (on_segment S e.from e.to v) → (e.from ≡ v) ⊎ (e.to ≡ v)

-- a dissection into simple polygons
pub record IsSimplyDissected (S : Signed) (T : Type 0) (P : Patch S T) : Type 0 where
  pub dissected : IsDissected S T P
  pub simple : (t : T) → IsAmong t P.tiles → IsSimple S (P.outline t)

-- the theorem of the turn: one that comes back has visited all tiles that have v as a vertex
abbrev pub TurnTheorem : Signed → Type 0 → Type 0
TurnTheorem S T =
    (P : Patch S T) → IsSimplyDissected S T P → (v : PlanePoint S.ops.carrier) (base : Corner T)
    → IsCornerAt S T P v base
    → (others : List (Corner T)) → IsTurn S T P base others → IsRound S T P v (base ∷ others)
