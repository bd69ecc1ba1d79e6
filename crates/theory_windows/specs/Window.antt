-- The theorem of the window. The tiles that are reached from the tile at the centre of an open box, across
-- edges that meet the box, are exactly those that meet the box, and they cover it.
use Rattle.std.specs.Prelude.{◌≡◌, ◌<◌, List, IsTrue}
use Rattle.theory_ring.specs.Sign.{Signed}
use Rattle.theory_plane.specs.Plane.{TestPoint, IsTestPoint}
use Rattle.theory_plane.specs.Crossing.{member}
use Rattle.theory_plane.specs.Box.{OpenBox}
use Rattle.theory_addresses.specs.Search.{IsAmong}
use Rattle.theory_windows.specs.Outlines.{PlaneEdge, edges}
use Rattle.theory_windows.specs.Meeting.{IsLeftFan}
use Rattle.theory_windows.specs.Patch.{Patch, IsDissected, IsClosed, Covers, HasAll}

abbrev pub WindowTheorem : (S : Signed) → Type 0 → Type 0
WindowTheorem S T =
    (P : Patch S T) → IsDissected S T P → (box : OpenBox S.ops.carrier) → 0 < box.w → 0 < box.h
    → (found : List T) → IsClosed S T P box found
    → Covers S T P box found × HasAll S T P box found

-- a tile is known by its outline, so by its kind and motion
abbrev pub KnownByOutline : Signed → Type 0 → Type 0
KnownByOutline S T =
    (P : Patch S T) → IsDissected S T P → (t u : T) → IsAmong t P.tiles → IsAmong u P.tiles
    → P.outline t ≡ P.outline u → t ≡ u

-- If outlines are left fans and no test point belongs to two tiles, no directed edge is of two tiles: a point
-- close to it, on its left, is of both.
abbrev pub OneOwner : Signed → Type 0 → Type 0
OneOwner S T =
    (P : Patch S T) → ((t : T) → IsAmong t P.tiles → IsLeftFan S (P.outline t))
    → ((t u : T) → IsAmong t P.tiles → IsAmong u P.tiles → (p : TestPoint S.ops.carrier) → IsTestPoint S p
    → IsTrue (member S (P.outline t) p) → IsTrue (member S (P.outline u) p) → t ≡ u)
    → (t u : T) → IsAmong t P.tiles → IsAmong u P.tiles → (e : PlaneEdge S) → IsAmong e (edges (P.outline t))
    → IsAmong e (edges (P.outline u)) → t ≡ u
