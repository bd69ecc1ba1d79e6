-- Patches of tiles, and dissected ones. What it means that some tiles of a patch are closed in a window,
-- cover it, or are all that meet it.
use Rattle.std.specs.Prelude.{◌≡◌, false, List, IsTrue}
use Rattle.std.specs.List.{AllByRecursion}
use Rattle.theory_ring.specs.Sign.{Signed}
use Rattle.theory_plane.specs.Plane.{TestPoint, IsTestPoint, test_point}
use Rattle.theory_plane.specs.Crossing.{member}
use Rattle.theory_plane.specs.Box.{OpenBox, in_box}
use Rattle.theory_addresses.specs.Search.{IsAmong}
use Rattle.theory_dissection.specs.Sums.{number_of}
use Rattle.theory_windows.specs.Distinct.{AreDistinct}
use Rattle.theory_windows.specs.Outlines.{PlaneEdge, Polygon, edges, MeetsBox, is_reverse}
use Rattle.theory_windows.specs.Meeting.{PolygonMeetsBox, IsLeftFan}

-- tiles by their names T, and the outline of each
pub record Patch (S : Signed) (T : Type 0) : Type 0 where
  pub tiles : List T
  pub outline : T → Polygon S

-- The tiles are distinct, and outlines are left fans. No test point belongs to two tiles. The edges of one
-- tile are distinct, and none is of two tiles. No edge of a tile is the reverse of another of its edges.
pub record IsDissected (S : Signed) (T : Type 0) (P : Patch S T) : Type 0 where
  pub distinct : AreDistinct P.tiles
  pub left_fan : (t : T) → IsAmong t P.tiles → IsLeftFan S (P.outline t)
  pub one_holder : (t u : T) → IsAmong t P.tiles → IsAmong u P.tiles → (p : TestPoint S.ops.carrier)
      → IsTestPoint S p
      → IsTrue (member S (P.outline t) p) → IsTrue (member S (P.outline u) p) → t ≡ u
  pub own_edges : (t : T) → IsAmong t P.tiles → AreDistinct (edges (P.outline t))
  pub one_owner : (t u : T) → IsAmong t P.tiles → IsAmong u P.tiles → (e : PlaneEdge S)
      → IsAmong e (edges (P.outline t)) → IsAmong e (edges (P.outline u)) → t ≡ u
  pub no_return : (t : T) → IsAmong t P.tiles → (e f : PlaneEdge S) → IsAmong e (edges (P.outline t))
      → IsAmong f (edges (P.outline t)) → is_reverse S e f ≡ false

-- one of these tiles has an edge that is the reverse of e
abbrev pub HasAcross : (S : Signed) (T : Type 0) → Patch S T → List T → PlaneEdge S → Type 0
HasAcross S T P found e = (u : T) × (f : PlaneEdge S) × IsAmong u found × IsAmong f (edges (P.outline u))
    × IsTrue (is_reverse S e f)

-- These tiles are of the patch and distinct, and one holds the centre of the box. The tile across each edge
-- of theirs that meets the box is one of them.
pub record IsClosed (S : Signed) (T : Type 0) (P : Patch S T) (box : OpenBox S.ops.carrier)
    (found : List T) : Type 0 where
  pub of_patch : AllByRecursion (λ t. IsAmong t P.tiles) found
  pub distinct : AreDistinct found
  pub holds_centre : (t : T) × IsAmong t found × IsTrue (member S (P.outline t) (test_point S.ops box.centre))
  pub closed : AllByRecursion
      (λ t. AllByRecursion (λ e. MeetsBox S box e → HasAcross S T P found e) (edges (P.outline t))) found

-- each test point in the box belongs to exactly one of these tiles
abbrev pub Covers : (S : Signed) (T : Type 0) → Patch S T → OpenBox S.ops.carrier → List T → Type 0
Covers S T P box found =
    (p : TestPoint S.ops.carrier) → IsTestPoint S p → IsTrue (in_box S box p)
    → number_of (λ t. member S (P.outline t) p) found ≡ 1

-- each tile of the patch that meets the box is one of these
abbrev pub HasAll : (S : Signed) (T : Type 0) → Patch S T → OpenBox S.ops.carrier → List T → Type 0
HasAll S T P box found = (t : T) → IsAmong t P.tiles → PolygonMeetsBox S box (P.outline t) → IsAmong t found
