-- The theorem of the search. It begins with the tile of the centre, and each step finds the tile across an
-- open edge. If no edge is open, the tiles found are those that meet the window, and the depth is the least
-- enough one.
use Rattle.std.specs.Prelude.{◌≡◌, ℕ, max, false, []}
use Rattle.theory_ring.specs.Sign.{Signed}
use Rattle.theory_plane.specs.Box.{OpenBox}
use Rattle.theory_windows.specs.GrowingPatch.{GrowingPatch}
use Rattle.theory_addresses.specs.Search.{IsAmong}
use Rattle.theory_windows.specs.Meeting.{PolygonMeetsBox}
use Rattle.theory_windows.specs.Patch.{Covers}
use Rattle.theory_windows.specs.EnoughDepth.{AreDrawnAtDepth, IsLeastEnough, IsNotBeyond}
use Rattle.theory_windows.specs.OpenEdges.{NumberedEdge}
use Rattle.theory_windows.specs.SearchState.{SearchState, IsRightState, started, stepped}
use Rattle.theory_windows.specs.PatchWindow.{PatchWindow, LiesAcross, HoldsCentre}

-- The least depth from m on at which the patch holds the centre is not beyond any enough one. If the centre's
-- tile is not refused, the state is right.
abbrev pub StartRight : Signed → Type 0 → Type 0
StartRight S T =
    (G : PatchWindow S T) (t : T) → HoldsCentre S T G.growing G.box t → (m : ℕ)
    → IsNotBeyond S T G.growing G.box m (max m (G.growing.level t))
    × (G.growing.refused t ≡ false
    → IsRightState S T G.growing G.box (started S T G.growing G.box (max m (G.growing.level t)) t))

-- The tile u is new, and meets the window. If its shift is not refused, the next state is right, and not
-- beyond any enough depth.
pub record IsStep (S : Signed) (T : Type 0) (F : GrowingPatch S T) (box : OpenBox S.ops.carrier)
    (s : SearchState S T) (u : T) : Type 0 where
  pub new : ¬ IsAmong u s.found
  pub meets : PolygonMeetsBox S box (F.patch.outline u)
  pub right : F.refused u ≡ false → IsRightState S T F box (stepped S T F box s u)
  pub not_beyond : (m : ℕ) → IsNotBeyond S T F box m s.depth
      → IsNotBeyond S T F box m (max s.depth (F.level u))

-- the tile across an open edge is such a step
abbrev pub StepRight : Signed → Type 0 → Type 0
StepRight S T =
    (G : PatchWindow S T) (s : SearchState S T) → IsRightState S T G.growing G.box s → (o : NumberedEdge S)
    → IsAmong o s.open_edges
    → (u : T) → LiesAcross S T G.growing o.line u → IsStep S T G.growing G.box s u

-- the tiles found are drawn and cover the window, and the depth is enough, so the least enough one
pub record IsFinished (S : Signed) (T : Type 0) (F : GrowingPatch S T) (box : OpenBox S.ops.carrier)
    (s : SearchState S T) : Type 0 where
  pub drawn : AreDrawnAtDepth S T F box s.depth s.found
  pub covers : Covers S T F.patch box s.found
  pub least : (m : ℕ) → IsNotBeyond S T F box m s.depth → IsLeastEnough S T F box m s.depth

-- this holds if no edge is open
abbrev pub FinishRight : Signed → Type 0 → Type 0
FinishRight S T = (G : PatchWindow S T) (s : SearchState S T) → IsRightState S T G.growing G.box s
    → s.open_edges ≡ [] → IsFinished S T G.growing G.box s
