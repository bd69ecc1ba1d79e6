-- The search for the tiles of a window on a frame: its first state, a step by a crossing that grows the
-- frame, its end, and why it stops.
use Rattle.std.specs.Prelude.{◌≡◌, ℕ, ◌<◌, ◌≤◌, max, Bool, true, false, List, [], Some, slice_get, length, map, IsTrue}
use Rattle.std.specs.List.{AllByRecursion}
use Rattle.theory_plane.specs.Plane.{test_point}
use Rattle.theory_plane.specs.Crossing.{member}
use Rattle.theory_plane.specs.Box.{OpenBox}
use Rattle.theory_addresses.specs.Address.{Address, depth}
use Rattle.theory_addresses.specs.Search.{IsAmong}
use Rattle.theory_substitution.specs.Points.{Points}
use Rattle.theory_substitution.specs.Plane.{plane_point, box_at}
use Rattle.theory_substitution.specs.Rule.{Rule}
use Rattle.theory_substitution.specs.Supertile.{Placed}
use Rattle.theory_dissection.specs.Accepted.{AcceptedRule, NamesTile}
use Rattle.theory_dissection.specs.OnBoundary.{IsOnBoundary}
use Rattle.theory_dissection.specs.Polygons.{tile_polygon}
use Rattle.theory_dissection.specs.TileEdges.{tile_at}
use Rattle.theory_frames.specs.Frame.{at_level, frame_tiles, lifted_in}
use Rattle.theory_windows.specs.Distinct.{AreDistinct}
use Rattle.theory_windows.specs.Patch.{Covers}
use Rattle.theory_windows.specs.AnyOrder.{HaveSameMembers}
use Rattle.theory_windows.specs.EnoughDepth.{IsNotBeyond}
use Rattle.theory_windows.specs.OpenEdges.{NumberedEdge}
use Rattle.theory_windows.specs.SearchState.{SearchState, IsRightState, started}
use Rattle.theory_windows.specs.SearchSteps.{IsStep}
use Rattle.theory_windows.specs.Refusals.{IsDepthLimit}
use Rattle.theory_windows.specs.FramePatch.{frame_patch, frame_holds, level_in, growing_frame, tile_of_ancestor, in_frame, line_of}
use Rattle.theory_windows.specs.FrameLaws.{IsEdgeInFrame}
use Rattle.theory_windows.specs.FrameSearch.{IsGrownCrossing}
use Rattle.theory_windows.specs.FrameWindow.{AreAllThatMeet, IsLeastDepth, IsWindowWithin}

-- a window of some extent on the frame
pub record IsWindowOn (P : Points) (T : AcceptedRule P) (f : Address)
    (box : OpenBox P.real.ops.carrier) : Type 0 where
  pub frame : NamesTile P T.rule f
  pub wide : 0 < box.w
  pub high : 0 < box.h

-- a state of the search, and that it is right
abbrev pub StateOn : Points → Type 0
StateOn P = SearchState P.real (Placed P.ring.carrier)

abbrev pub IsRightOn : (P : Points) → (P.ring.carrier → Bool) → AcceptedRule P → Address
    → OpenBox P.real.ops.carrier → StateOn P → Type 0
IsRightOn P refused T f box s =
    IsRightState P.real (Placed P.ring.carrier) (growing_frame P refused T.rule f) box s

-- ---- the start
-- n is the least depth from m on at which the frame holds the point
pub record IsLeastHolding (P : Points) (r : Rule P.ring.carrier) (f : Address) (p : P.ring.carrier)
    (m n : ℕ) : Type 0 where
  pub not_below : m ≤ n
  pub within : n ≤ depth f
  pub holds : frame_holds P r f n p ≡ true
  pub least : (k : ℕ) → m ≤ k → k < n → ¬ (frame_holds P r f k p ≡ true)

-- the search starts with the tile that holds the centre, at that depth
abbrev pub FrameStartLaw : Points → Type 0
FrameStartLaw P =
    (T : AcceptedRule P) (f : Address) (refused : P.ring.carrier → Bool) (centre : P.ring.carrier) (w h : ℕ)
    → IsWindowOn P T f (box_at P centre w h)
    → (m n : ℕ) → IsLeastHolding P T.rule f centre m n → (t : Placed P.ring.carrier)
    → IsAmong t (frame_tiles P T.rule (at_level f n))
    → IsTrue (member P.real (tile_polygon P T.rule (λ z. z) t) (test_point P.real.ops (plane_point P centre)))
    → IsNotBeyond P.real (Placed P.ring.carrier) (growing_frame P refused T.rule f) (box_at P centre w h) m n
    × (refused t.motion.shift ≡ false
    → IsRightOn P refused T f (box_at P centre w h)
    (started P.real (Placed P.ring.carrier) (growing_frame P refused T.rule f) (box_at P centre w h) n
    (tile_of_ancestor f t)))

-- ---- a step
-- an open edge of the tile that a names, which is crossed at depth n to edge g of the tile b
pub record IsOpenCrossing (P : Points) (T : AcceptedRule P) (f : Address) (s : StateOn P)
    (o : NumberedEdge P.real) (n : ℕ) (a b : Address) (g : ℕ) : Type 0 where
  pub is_open : IsAmong o s.open_edges
  pub tile : slice_get s.found o.tile ≡ Some (in_frame P T.rule f a)
  pub crossing : IsGrownCrossing P T f s.depth n a o.edge b g

-- the tile b is found, and the frame has the depth of the next state
abbrev pub FrameStepLaw : Points → Type 0
FrameStepLaw P =
    (T : AcceptedRule P) (f : Address) (refused : P.ring.carrier → Bool) (box : OpenBox P.real.ops.carrier)
    → IsWindowOn P T f box
    → (s : StateOn P) → IsRightOn P refused T f box s
    → (o : NumberedEdge P.real) (n : ℕ) (a b : Address) (g : ℕ) → IsOpenCrossing P T f s o n a b g
    → IsStep P.real (Placed P.ring.carrier) (growing_frame P refused T.rule f) box s (in_frame P T.rule f b)
    × (max s.depth (level_in f (lifted_in f b)) ≡ n)

-- ---- the end
-- these tiles of the frame at depth n are all that meet the window, and cover it; n is the least depth,
-- unless it is beyond some enough one
pub record IsFrameAnswer (P : Points) (refused : P.ring.carrier → Bool) (r : Rule P.ring.carrier)
    (f : Address) (box : OpenBox P.real.ops.carrier) (n : ℕ)
    (tiles : List (Placed P.ring.carrier)) : Type 0 where
  pub all_that_meet : AreAllThatMeet P.real (Placed P.ring.carrier) (frame_patch P r (at_level f n)) box tiles
  pub covers : Covers P.real (Placed P.ring.carrier) (frame_patch P r (at_level f n)) box tiles
  pub least : (m : ℕ) → m ≤ depth f
      → IsNotBeyond P.real (Placed P.ring.carrier) (growing_frame P refused r f) box m n
      → IsLeastDepth P r f box m n

-- if no edge is open, the tiles found are the result, in any order
abbrev pub FrameFinishLaw : Points → Type 0
FrameFinishLaw P =
    (T : AcceptedRule P) (f : Address) (refused : P.ring.carrier → Bool) (box : OpenBox P.real.ops.carrier)
    → IsWindowOn P T f box
    → (s : StateOn P) → IsRightOn P refused T f box s → s.open_edges ≡ [] → s.depth ≤ depth f
    → (tiles : List (Placed P.ring.carrier)) → AreDistinct tiles
    → AllByRecursion (λ (t : Placed P.ring.carrier). depth t.address ≡ s.depth) tiles
    → HaveSameMembers s.found (map (tile_of_ancestor f) tiles)
    → IsFrameAnswer P refused T.rule f box s.depth tiles

-- ---- where it stops, and the limits
-- an open edge on the boundary at the frame's own depth, and its tile, meet the window, and the window is not
-- within the limits
abbrev pub FrameStopLaw : Points → Type 0
FrameStopLaw P =
    (T : AcceptedRule P) (f : Address) (refused : P.ring.carrier → Bool) (box : OpenBox P.real.ops.carrier)
    → IsWindowOn P T f box
    → (s : StateOn P) → IsRightOn P refused T f box s → (o : NumberedEdge P.real) → IsAmong o s.open_edges
    → (a : Address) → slice_get s.found o.tile ≡ Some (in_frame P T.rule f a) → IsEdgeInFrame P T f a o.edge
    → (own part : ℕ) → IsOnBoundary P T.rule (tile_at P T.rule (lifted_in f a)) o.edge own part
    → IsDepthLimit P.real (Placed P.ring.carrier) (growing_frame P refused T.rule f) box
    (line_of P T.rule (in_frame P T.rule f a) o.edge) (in_frame P T.rule f a)
    × ((m limit : ℕ) → ¬ IsWindowWithin P refused T.rule f box m limit)

-- within the limits no tile across an open edge is refused, and none is one too many
abbrev pub FrameGoesOnLaw : Points → Type 0
FrameGoesOnLaw P =
    (T : AcceptedRule P) (f : Address) (refused : P.ring.carrier → Bool) (box : OpenBox P.real.ops.carrier)
    → IsWindowOn P T f box
    → (m limit : ℕ) → IsWindowWithin P refused T.rule f box m limit → (s : StateOn P)
    → IsRightOn P refused T f box s
    → (o : NumberedEdge P.real) (n : ℕ) (a b : Address) (g : ℕ) → IsOpenCrossing P T f s o n a b g
    → (refused (in_frame P T.rule f b).motion.shift ≡ false) × (length s.found < limit)

-- and if the search comes to its end, the window is within the limits
abbrev pub FrameEndsLaw : Points → Type 0
FrameEndsLaw P =
    (T : AcceptedRule P) (f : Address) (refused : P.ring.carrier → Bool) (box : OpenBox P.real.ops.carrier)
    → IsWindowOn P T f box
    → (m limit : ℕ) → m ≤ depth f → (s : StateOn P) → IsRightOn P refused T f box s → s.open_edges ≡ []
    → IsNotBeyond P.real (Placed P.ring.carrier) (growing_frame P refused T.rule f) box m s.depth
    → length s.found ≤ limit
    → IsWindowWithin P refused T.rule f box m limit
