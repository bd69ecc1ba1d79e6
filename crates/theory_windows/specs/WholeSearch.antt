-- The whole search: from the tile of the centre by steps across the first open edge until none is open. It
-- comes to its end exactly within the limits.
use Rattle.std.specs.Prelude.{◌≡◌, ◌↔◌, ℕ, ◌≤◌, max, false, List, [], ◌∷◌, length}
use Rattle.theory_ring.specs.Sign.{Signed}
use Rattle.theory_plane.specs.Box.{OpenBox}
use Rattle.theory_windows.specs.GrowingPatch.{GrowingPatch}
use Rattle.theory_windows.specs.Patch.{Covers}
use Rattle.theory_windows.specs.EnoughDepth.{AreDrawnAtDepth, IsLeastEnough}
use Rattle.theory_windows.specs.OpenEdges.{NumberedEdge}
use Rattle.theory_windows.specs.SearchState.{SearchState, started, stepped}
use Rattle.theory_windows.specs.PatchWindow.{PatchWindow, LiesAcross, HoldsCentre}
use Rattle.theory_windows.specs.Limits.{IsWithinLimits}

-- o is the first open edge
abbrev pub IsFirstOpen : {S : Signed} {T : Type 0} → NumberedEdge S → SearchState S T → Type 0
IsFirstOpen {S} o s = (rest : List (NumberedEdge S)) × (s.open_edges ≡ o ∷ rest)

-- steps that find these tiles, none of them refused, lead from one state to another
abbrev pub Lead : (S : Signed) (T : Type 0) → GrowingPatch S T → OpenBox S.ops.carrier → SearchState S T
    → List T → SearchState S T → Type 0
Lead S T F box s [] end = s ≡ end
Lead S T F box s (u ∷ us) end =
    ((o : NumberedEdge S) × IsFirstOpen o s × LiesAcross S T F o.line u) × (F.refused u ≡ false)
    × Lead S T F box (stepped S T F box s u) us end

-- a search from depth m on that has come to its end, with no more tiles than the limit
pub record IsSearch (S : Signed) (T : Type 0) (F : GrowingPatch S T) (box : OpenBox S.ops.carrier)
    (m limit : ℕ) (end : SearchState S T) : Type 0 where
  pub centre : T
  pub holds_centre : HoldsCentre S T F box centre
  pub kept : F.refused centre ≡ false
  pub tiles : List T
  pub lead : Lead S T F box (started S T F box (max m (F.level centre)) centre) tiles end
  pub none_open : end.open_edges ≡ []
  pub not_too_many : length end.found ≤ limit

-- what it found is drawn at the least enough depth, and covers the window
pub record IsAnswer (S : Signed) (T : Type 0) (F : GrowingPatch S T) (box : OpenBox S.ops.carrier) (m : ℕ)
    (end : SearchState S T) : Type 0 where
  pub least : IsLeastEnough S T F box m end.depth
  pub drawn : AreDrawnAtDepth S T F box end.depth end.found
  pub covers : Covers S T F.patch box end.found

abbrev pub SearchAnswers : Signed → Type 0 → Type 0
SearchAnswers S T = (G : PatchWindow S T) (m limit : ℕ) (end : SearchState S T)
    → IsSearch S T G.growing G.box m limit end → IsAnswer S T G.growing G.box m end

abbrev pub SearchEnds : Signed → Type 0 → Type 0
SearchEnds S T = (G : PatchWindow S T) (m limit : ℕ)
    → ((end : SearchState S T) × IsSearch S T G.growing G.box m limit end)
    ↔ IsWithinLimits S T G.growing G.box m limit
