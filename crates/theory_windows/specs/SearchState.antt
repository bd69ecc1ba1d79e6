-- The state of a search for the tiles of a window: the tiles found so far, their open edges, and the depth to
-- which the patch has grown.
use Rattle.std.specs.Prelude.{◌≡◌, ℕ, ◌≤◌, max, false, not, List, [], ◌∷◌, ◌++◌, map, length, IsTrue}
use Rattle.std.specs.List.{flat_map, filter, AllByRecursion}
use Rattle.theory_ring.specs.Sign.{Signed}
use Rattle.theory_plane.specs.Plane.{test_point}
use Rattle.theory_plane.specs.Crossing.{member}
use Rattle.theory_plane.specs.Box.{OpenBox}
use Rattle.theory_addresses.specs.Search.{IsAmong}
use Rattle.theory_windows.specs.Distinct.{AreDistinct}
use Rattle.theory_windows.specs.Outlines.{Polygon, edges}
use Rattle.theory_windows.specs.Meeting.{PolygonMeetsBox}
use Rattle.theory_windows.specs.GrowingPatch.{GrowingPatch}
use Rattle.theory_windows.specs.OpenEdges.{NumberedEdge, edges_of_tile}
use Rattle.theory_windows.specs.OpenTest.{is_met, is_open, open_edges_of}

pub record SearchState (S : Signed) (T : Type 0) : Type 0 where
  pub found : List T
  pub open_edges : List (NumberedEdge S)
  pub depth : ℕ

-- the outlines of tiles found
abbrev pub outlines : (S : Signed) (T : Type 0) → GrowingPatch S T → List T → List (Polygon S)
outlines S T F found = map F.patch.outline found

-- the first tile, tile 0, is t
abbrev pub IsFirst : {T : Type 0} → T → List T → Type 0
IsFirst t [] = ⊥
IsFirst t (x ∷ xs) = t ≡ x

-- the tiles found are of the patch at its depth, distinct and not refused; each meets the window; tile 0
-- holds the centre; and the open edges are theirs
pub record IsRightState (S : Signed) (T : Type 0) (F : GrowingPatch S T) (box : OpenBox S.ops.carrier)
    (s : SearchState S T) : Type 0 where
  pub of_patch : AllByRecursion (λ t. IsAmong t F.patch.tiles) s.found
  pub at_depth : AllByRecursion (λ t. F.level t ≤ s.depth) s.found
  pub distinct : AreDistinct s.found
  pub none_refused : AllByRecursion (λ t. F.refused t ≡ false) s.found
  pub each_meets : AllByRecursion (λ t. PolygonMeetsBox S box (F.patch.outline t)) s.found
  pub holds_centre : (t : T) × IsFirst t s.found
      × IsTrue (member S (F.patch.outline t) (test_point S.ops box.centre))
  pub open_is : s.open_edges ≡ open_edges_of S box (outlines S T F s.found)

-- at first: the tile that holds the centre, with those of its edges that meet the window
abbrev pub started : (S : Signed) (T : Type 0) → GrowingPatch S T → OpenBox S.ops.carrier → ℕ → T
    → SearchState S T
started S T F box depth t = record {
  found = t ∷ [];
  open_edges = filter (λ n. is_open S box [] n.line) (edges_of_tile S 0 (F.patch.outline t));
  depth = depth;
}

-- one step: u is found, the open edges that it meets are closed, and its own edges that meet the window and
-- have no tile found across them are open
abbrev pub stepped : (S : Signed) (T : Type 0) → GrowingPatch S T → OpenBox S.ops.carrier → SearchState S T
    → T → SearchState S T
stepped S T F box s u = record {
  found = s.found ++ u ∷ [];
  open_edges = filter (λ n. not (is_met S (edges (F.patch.outline u)) n.line)) s.open_edges
      ++ filter (λ n. is_open S box (flat_map edges (outlines S T F s.found)) n.line)
      (edges_of_tile S (length s.found) (F.patch.outline u));
  depth = max s.depth (F.level u);
}
