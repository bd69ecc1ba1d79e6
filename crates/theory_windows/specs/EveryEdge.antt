-- A search that crosses each edge that meets the window, open or not, finds the same tiles.
use Rattle.std.specs.Prelude.{◌≡◌, ◌⊎◌, [], IsTrue}
use Rattle.theory_ring.specs.Sign.{Signed}
use Rattle.theory_addresses.specs.Search.{IsAmong}
use Rattle.theory_windows.specs.Outlines.{PlaneEdge, edges, MeetsBox, is_reverse}
use Rattle.theory_windows.specs.Patch.{IsClosed}
use Rattle.theory_windows.specs.OpenEdges.{NumberedEdge}
use Rattle.theory_windows.specs.SearchState.{SearchState, IsRightState}
use Rattle.theory_windows.specs.PatchWindow.{PatchWindow}

-- the tile across an edge of a tile found that meets the window is found already, or the edge is open
abbrev pub FoundOrOpen : Signed → Type 0 → Type 0
FoundOrOpen S T =
    (G : PatchWindow S T) (s : SearchState S T) → IsRightState S T G.growing G.box s
    → (t : T) → IsAmong t s.found → (e : PlaneEdge S) → IsAmong e (edges (G.growing.patch.outline t))
    → MeetsBox S G.box e
    → (u : T) → IsAmong u G.growing.patch.tiles → (f : PlaneEdge S)
    → IsAmong f (edges (G.growing.patch.outline u)) → IsTrue (is_reverse S e f)
    → IsAmong u s.found ⊎ ((o : NumberedEdge S) × IsAmong o s.open_edges × (o.line ≡ e))

-- if the tile across each edge that meets the window is found, no edge is open
abbrev pub NoneOpen : Signed → Type 0 → Type 0
NoneOpen S T =
    (G : PatchWindow S T) (s : SearchState S T) → IsRightState S T G.growing G.box s
    → IsClosed S T G.growing.patch G.box s.found → s.open_edges ≡ []
