-- A walk through a listing. It begins with the tile of the centre, goes on across edges that meet the window,
-- and looks for each tile that it comes to among the lines.
use Rattle.std.specs.Prelude.{◌≡◌, ℕ, true, false, List, IsTrue}
use Rattle.std.specs.List.{AllByRecursion}
use Rattle.theory_ring.specs.Sign.{Signed}
use Rattle.theory_plane.specs.Plane.{test_point}
use Rattle.theory_plane.specs.Crossing.{member}
use Rattle.theory_plane.specs.Box.{OpenBox}
use Rattle.theory_addresses.specs.Search.{IsAmong}
use Rattle.theory_windows.specs.Distinct.{AreDistinct}
use Rattle.theory_windows.specs.Outlines.{PlaneEdge, edges, MeetsBox}
use Rattle.theory_windows.specs.Meeting.{PolygonMeetsBox}
use Rattle.theory_windows.specs.Patch.{Patch, HasAcross}
use Rattle.theory_windows.specs.GrowingPatch.{GrowingPatch}
use Rattle.theory_windows.specs.Refusals.{IsDepthLimit}
use Rattle.theory_listings.specs.Lines.{ListLine, named_tiles, IsLineAt, IsListed}

-- t is a tile of the patch that meets the window
abbrev pub MeetsIn : (S : Signed) (T : Type 0) → Patch S T → OpenBox S.ops.carrier → T → Type 0
MeetsIn S T P box t = IsAmong t P.tiles × PolygonMeetsBox S box (P.outline t)

-- The tiles found on a walk are of the patch and distinct, and none is refused. Each meets the window, and
-- has a line with its motion. One holds the centre.
pub record IsWalk (S : Signed) (T M : Type 0) (F : GrowingPatch S T) (box : OpenBox S.ops.carrier)
    (motion_of : T → M) (lines : List (ListLine T M)) (found : List T) : Type 0 where
  pub each_meets : AllByRecursion (MeetsIn S T F.patch box) found
  pub distinct : AreDistinct found
  pub none_refused : AllByRecursion (λ t. F.refused t ≡ false) found
  pub each_listed : AllByRecursion (IsListed motion_of lines) found
  pub holds_centre : (t : T) × IsAmong t found
      × IsTrue (member S (F.patch.outline t) (test_point S.ops box.centre))

-- the walk is at its end if a tile found lies across each edge of a tile found that meets the window
abbrev pub IsWalkedOut : (S : Signed) (T : Type 0) → Patch S T → OpenBox S.ops.carrier → List T → Type 0
IsWalkedOut S T P box found = (t : T) → IsAmong t found → (e : PlaneEdge S) → IsAmong e (edges (P.outline t))
    → MeetsBox S box e → HasAcross S T P found e

-- why a walk stops before its end; lines are numbered from 0
pub data WalkFault (S : Signed) (T M : Type 0) : Type 0 where
  Missing : T → WalkFault S T M
  WrongPlace : ℕ → M → WalkFault S T M
  Refused : T → WalkFault S T M
  NoneAcross : PlaneEdge S → T → WalkFault S T M

-- the tile of line i meets the window and has the motion g, which is not the line's
pub record IsWrongPlace (S : Signed) (T M : Type 0) (F : GrowingPatch S T) (box : OpenBox S.ops.carrier)
    (motion_of : T → M) (lines : List (ListLine T M)) (i : ℕ) (g : M) : Type 0 where
  pub line : ListLine T M
  pub is_line : IsLineAt lines i line
  pub meets : MeetsIn S T F.patch box line.tile
  pub motion : motion_of line.tile ≡ g
  pub other : ¬ (line.motion ≡ g)

-- The cause of each. A tile meets the window and no line names it; a line's tile meets it and has another
-- motion; or a tile meets it and its shift is refused. Or an edge of a tile meets it, with no tile across at
-- all, so that no depth is enough.
abbrev pub HasWalkCause : (S : Signed) (T M : Type 0) → GrowingPatch S T → OpenBox S.ops.carrier → (T → M)
    → List (ListLine T M) → WalkFault S T M → Type 0
HasWalkCause S T M F box motion_of lines (Missing t) = MeetsIn S T F.patch box t
    × ¬ IsAmong t (named_tiles lines)
HasWalkCause S T M F box motion_of lines (WrongPlace i g) = IsWrongPlace S T M F box motion_of lines i g
HasWalkCause S T M F box motion_of lines (Refused t) = MeetsIn S T F.patch box t × (F.refused t ≡ true)
HasWalkCause S T M F box motion_of lines (NoneAcross e t) = IsDepthLimit S T F box e t
