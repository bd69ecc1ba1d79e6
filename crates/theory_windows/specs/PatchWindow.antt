-- A window on a growing patch, the tile at its centre, and the tiles across edges.
use Rattle.std.specs.Prelude.{◌<◌, IsTrue}
use Rattle.theory_ring.specs.Sign.{Signed}
use Rattle.theory_plane.specs.Plane.{test_point}
use Rattle.theory_plane.specs.Crossing.{member}
use Rattle.theory_plane.specs.Box.{OpenBox}
use Rattle.theory_addresses.specs.Search.{IsAmong}
use Rattle.theory_windows.specs.Outlines.{PlaneEdge, edges, is_reverse}
use Rattle.theory_windows.specs.Patch.{IsDissected}
use Rattle.theory_windows.specs.GrowingPatch.{GrowingPatch}

-- a window of some extent on a growing patch that is dissected
pub record PatchWindow (S : Signed) (T : Type 0) : Type 0 where
  pub growing : GrowingPatch S T
  pub dissected : IsDissected S T growing.patch
  pub box : OpenBox S.ops.carrier
  pub wide : 0 < box.w
  pub high : 0 < box.h

-- u is the tile across e: it has an edge that is the reverse of it
pub record LiesAcross (S : Signed) (T : Type 0) (F : GrowingPatch S T) (e : PlaneEdge S)
    (u : T) : Type 0 where
  pub of_patch : IsAmong u F.patch.tiles
  pub edge : PlaneEdge S
  pub among : IsAmong edge (edges (F.patch.outline u))
  pub back : IsTrue (is_reverse S e edge)

-- t is the tile that holds the centre
pub record HoldsCentre (S : Signed) (T : Type 0) (F : GrowingPatch S T) (box : OpenBox S.ops.carrier)
    (t : T) : Type 0 where
  pub of_patch : IsAmong t F.patch.tiles
  pub holds : IsTrue (member S (F.patch.outline t) (test_point S.ops box.centre))
