-- The theorem of the walk through a listing: it decides exactly whether the listing is right, and if not,
-- why.
use Rattle.std.specs.Prelude.{◌≡◌, ℕ, ◌<◌, false, List, [], ◌∷◌, ◌++◌, length}
use Rattle.std.specs.List.{AllByRecursion}
use Rattle.theory_ring.specs.Sign.{Signed}
use Rattle.theory_addresses.specs.Search.{IsAmong}
use Rattle.theory_windows.specs.Outlines.{PlaneEdge, edges, MeetsBox}
use Rattle.theory_windows.specs.Meeting.{PolygonMeetsBox}
use Rattle.theory_windows.specs.Patch.{HasAll}
use Rattle.theory_windows.specs.PatchWindow.{PatchWindow, LiesAcross, HoldsCentre}
use Rattle.theory_windows.specs.Refusals.{IsDepthLimit}
use Rattle.theory_listings.specs.Lines.{ListLine, named_tiles, deepest_line, IsFirstLine, AreLinesOf, IsListed}
use Rattle.theory_listings.specs.Walk.{MeetsIn, IsWalk, IsWalkedOut, WalkFault, HasWalkCause}
use Rattle.theory_listings.specs.RightList.{IsRightList, AreNoneRefused, IsAllListed, IsStrayLine}

-- a tile that the walk comes to meets the window; if it is new, listed and not refused, the walk goes on with
-- it
pub record ComesOn (S : Signed) (T M : Type 0) (G : PatchWindow S T) (motion_of : T → M)
    (lines : List (ListLine T M)) (found : List T) (u : T) : Type 0 where
  pub meets : MeetsIn S T G.growing.patch G.box u
  pub onward : ¬ IsAmong u found → G.growing.refused u ≡ false → IsListed motion_of lines u
      → IsWalk S T M G.growing G.box motion_of lines (found ++ u ∷ [])

-- an edge of a tile found on a walk, which meets the window
pub record IsEdgeOfWalk (S : Signed) (T M : Type 0) (G : PatchWindow S T) (motion_of : T → M)
    (lines : List (ListLine T M)) (found : List T) (t : T) (e : PlaneEdge S) : Type 0 where
  pub walk : IsWalk S T M G.growing G.box motion_of lines found
  pub among : IsAmong t found
  pub of_tile : IsAmong e (edges (G.growing.patch.outline t))
  pub edge_meets : MeetsBox S G.box e

pub record WalkHolds (S : Signed) (T M : Type 0) (G : PatchWindow S T) (motion_of : T → M) (m : ℕ)
    (lines : List (ListLine T M)) : Type 0 where
  -- the walk begins with the tile of the centre
  pub start : (t : T) → HoldsCentre S T G.growing G.box t → ComesOn S T M G motion_of lines [] t
  -- it goes on with the tile across an edge; and each tile that is new is one line more, so that it ends
  pub step : (found : List T) (t : T) (e : PlaneEdge S) → IsEdgeOfWalk S T M G motion_of lines found t e
      → (u : T) → LiesAcross S T G.growing e u
      → ComesOn S T M G motion_of lines found u
  pub room : (found : List T) → IsWalk S T M G.growing G.box motion_of lines found → (u : T)
      → ¬ IsAmong u found → IsListed motion_of lines u → length found < length lines
  pub stop : (found : List T) (t : T) (e : PlaneEdge S) → IsEdgeOfWalk S T M G motion_of lines found t e
      → ((u : T) → ¬ LiesAcross S T G.growing e u)
      → IsDepthLimit S T G.growing G.box e t
  -- at its end the tiles found are all that meet the window; so each has a line with its motion, and the
  -- listing is right if each line's tile is found
  pub finish : (found : List T) → IsWalk S T M G.growing G.box motion_of lines found
      → IsWalkedOut S T G.growing.patch G.box found
      → HasAll S T G.growing.patch G.box found × IsAllListed S T M G.growing G.box motion_of m lines
  pub right : (found : List T) → IsWalk S T M G.growing G.box motion_of lines found
      → IsWalkedOut S T G.growing.patch G.box found
      → AllByRecursion (λ t. IsAmong t found) (named_tiles lines)
      → IsRightList S T M G.growing G.box motion_of m lines × AreNoneRefused S T M G.growing lines
  pub stray : (found : List T) → IsWalk S T M G.growing G.box motion_of lines found
      → IsWalkedOut S T G.growing.patch G.box found
      → (i : ℕ) → IsFirstLine (λ l. ¬ IsAmong l.tile found) lines i
      → IsStrayLine S T M G.growing G.box motion_of m lines i
  -- If all are listed, no fault has a cause. This holds for a right listing: no line is stray, and its depth
  -- is the greatest of m and the listed ones.
  pub no_fault : IsAllListed S T M G.growing G.box motion_of m lines → (a : WalkFault S T M)
      → ¬ HasWalkCause S T M G.growing G.box motion_of lines a
  pub all_listed : IsRightList S T M G.growing G.box motion_of m lines → AreNoneRefused S T M G.growing lines
      → IsAllListed S T M G.growing G.box motion_of m lines
  pub each_meets : IsRightList S T M G.growing G.box motion_of m lines
      → AllByRecursion (λ t. PolygonMeetsBox S G.box (G.growing.patch.outline t)) (named_tiles lines)
  pub right_depth : (r : IsRightList S T M G.growing G.box motion_of m lines) → r.depth ≡ deepest_line m lines

-- of lines that name distinct tiles of the patch
abbrev pub WalkTheorem : Signed → Type 0 → Type 0 → Type 0
WalkTheorem S T M =
    (G : PatchWindow S T) (motion_of : T → M) (m : ℕ) (lines : List (ListLine T M))
    → AreLinesOf S T M G.growing lines → WalkHolds S T M G motion_of m lines
