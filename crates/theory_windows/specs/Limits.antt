-- Windows within the limits of a growing patch: some depth is enough, no tile drawn is refused, and not too
-- many are drawn. The search goes on exactly there.
use Rattle.std.specs.Prelude.{◌≡◌, ℕ, ◌<◌, ◌≤◌, false, List, [], length}
use Rattle.std.specs.List.{AllByRecursion}
use Rattle.theory_ring.specs.Sign.{Signed}
use Rattle.theory_plane.specs.Box.{OpenBox}
use Rattle.theory_windows.specs.GrowingPatch.{GrowingPatch}
use Rattle.theory_addresses.specs.Search.{IsAmong}
use Rattle.theory_windows.specs.EnoughDepth.{AreDrawnAtDepth, IsLeastEnough, IsNotBeyond}
use Rattle.theory_windows.specs.OpenEdges.{NumberedEdge}
use Rattle.theory_windows.specs.SearchState.{SearchState, IsRightState}
use Rattle.theory_windows.specs.PatchWindow.{PatchWindow, LiesAcross}

-- the most tiles that a window of the engine may have
abbrev pub most_tiles : ℕ
most_tiles = 200000

-- from depth m on, and with a limit on the number of tiles
pub record IsWithinLimits (S : Signed) (T : Type 0) (F : GrowingPatch S T) (box : OpenBox S.ops.carrier)
    (m limit : ℕ) : Type 0 where
  pub depth : ℕ
  pub least : IsLeastEnough S T F box m depth
  pub drawn : List T
  pub are_drawn : AreDrawnAtDepth S T F box depth drawn
  pub none_refused : AllByRecursion (λ t. F.refused t ≡ false) drawn
  pub not_too_many : length drawn ≤ limit

-- within the limits each open edge has a tile across it, which is not refused and is not one too many
abbrev pub GoesOn : Signed → Type 0 → Type 0
GoesOn S T =
    (G : PatchWindow S T) (m limit : ℕ) → IsWithinLimits S T G.growing G.box m limit
    → (s : SearchState S T) → IsRightState S T G.growing G.box s → (o : NumberedEdge S)
    → IsAmong o s.open_edges
    → (u : T) × LiesAcross S T G.growing o.line u × (G.growing.refused u ≡ false) × (length s.found < limit)

-- and if the search comes to its end, the window is within the limits
abbrev pub EndsWithin : Signed → Type 0 → Type 0
EndsWithin S T =
    (G : PatchWindow S T) (m limit : ℕ) (s : SearchState S T) → IsRightState S T G.growing G.box s
    → s.open_edges ≡ []
    → IsNotBeyond S T G.growing G.box m s.depth → length s.found ≤ limit
    → IsWithinLimits S T G.growing G.box m limit
