-- One step by the open edges alone: an edge of a new tile that meets the window is met by a tile found if and
-- only if an open edge is its reverse.
use Rattle.std.specs.Prelude.{◌≡◌, Bool, not, ◌&&◌, List, ◌++◌, length}
use Rattle.std.specs.List.{filter, list_any}
use Rattle.theory_ring.specs.Sign.{Signed}
use Rattle.theory_plane.specs.BoxTest.{box_test}
use Rattle.theory_addresses.specs.Search.{IsAmong}
use Rattle.theory_windows.specs.Outlines.{PlaneEdge, edges, is_reverse}
use Rattle.theory_windows.specs.OpenEdges.{NumberedEdge, edges_of_tile}
use Rattle.theory_windows.specs.OpenTest.{is_met}
use Rattle.theory_windows.specs.SearchState.{SearchState, IsRightState, stepped}
use Rattle.theory_windows.specs.PatchWindow.{PatchWindow}

-- whether one of these open edges is the reverse of e
abbrev pub closes_one : (S : Signed) → List (NumberedEdge S) → PlaneEdge S → Bool
closes_one S open_now e = list_any (λ o. is_reverse S e o.line) open_now

-- the open edges that no edge of the new tile closes, and those of its own edges that meet the window and
-- close none
abbrev pub OpenStep : Signed → Type 0 → Type 0
OpenStep S T =
    (G : PatchWindow S T) (s : SearchState S T) → IsRightState S T G.growing G.box s
    → (u : T) → IsAmong u G.growing.patch.tiles → (¬ IsAmong u s.found)
    → (stepped S T G.growing G.box s u).open_edges
    ≡ filter (λ n. not (is_met S (edges (G.growing.patch.outline u)) n.line)) s.open_edges
    ++ filter (λ n. box_test S n.line.from n.line.to G.box && not (closes_one S s.open_edges n.line))
    (edges_of_tile S (length s.found) (G.growing.patch.outline u))
