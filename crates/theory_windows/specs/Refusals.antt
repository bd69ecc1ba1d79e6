-- The causes for which a search for the tiles of a window stops.
use Rattle.std.specs.Prelude.{ℕ, ◌<◌, List, length}
use Rattle.theory_ring.specs.Sign.{Signed}
use Rattle.theory_plane.specs.Box.{OpenBox}
use Rattle.theory_windows.specs.GrowingPatch.{GrowingPatch}
use Rattle.theory_addresses.specs.Search.{IsAmong}
use Rattle.theory_windows.specs.Outlines.{PlaneEdge, edges, MeetsBox}
use Rattle.theory_windows.specs.Meeting.{PolygonMeetsBox}
use Rattle.theory_windows.specs.EnoughDepth.{IsEnough, AreDrawnAtDepth}
use Rattle.theory_windows.specs.OpenEdges.{NumberedEdge}
use Rattle.theory_windows.specs.SearchState.{SearchState, IsRightState}
use Rattle.theory_windows.specs.PatchWindow.{PatchWindow, LiesAcross}

-- e is an edge of the tile t, both meet the window, and no depth is enough
pub record IsDepthLimit (S : Signed) (T : Type 0) (F : GrowingPatch S T) (box : OpenBox S.ops.carrier)
    (e : PlaneEdge S) (t : T) : Type 0 where
  pub of_tile : IsAmong e (edges (F.patch.outline t))
  pub edge_meets : MeetsBox S box e
  pub tile_meets : PolygonMeetsBox S box (F.patch.outline t)
  pub none_enough : (n : ℕ) → ¬ IsEnough S T F box n

-- the same holds for an open edge that has no tile across it at all
abbrev pub DepthRefusal : Signed → Type 0 → Type 0
DepthRefusal S T =
    (G : PatchWindow S T) (s : SearchState S T) → IsRightState S T G.growing G.box s → (o : NumberedEdge S)
    → IsAmong o s.open_edges
    → ((u : T) → ¬ LiesAcross S T G.growing o.line u)
    → (t : T) × IsAmong t s.found × IsDepthLimit S T G.growing G.box o.line t

-- each tile of the patch that meets the window is drawn at each enough depth: so a tile found with a refused
-- shift is
abbrev pub AllDrawn : Signed → Type 0 → Type 0
AllDrawn S T =
    (G : PatchWindow S T) (n : ℕ) → IsEnough S T G.growing G.box n → (drawn : List T)
    → AreDrawnAtDepth S T G.growing G.box n drawn
    → (t : T) → IsAmong t G.growing.patch.tiles → PolygonMeetsBox S G.box (G.growing.patch.outline t)
    → IsAmong t drawn

-- if one tile more than those found meets the window, more tiles are drawn at each enough depth than were
-- found
abbrev pub CountRefusal : Signed → Type 0 → Type 0
CountRefusal S T =
    (G : PatchWindow S T) (s : SearchState S T) → IsRightState S T G.growing G.box s
    → (u : T) → IsAmong u G.growing.patch.tiles → (¬ IsAmong u s.found)
    → PolygonMeetsBox S G.box (G.growing.patch.outline u)
    → (n : ℕ) → IsEnough S T G.growing G.box n → (drawn : List T)
    → AreDrawnAtDepth S T G.growing G.box n drawn → length s.found < length drawn
