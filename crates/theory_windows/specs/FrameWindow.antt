-- A window on a frame, in the words of the frame's own tiles and of its polygon at each depth.
use Rattle.std.specs.Prelude.{◌≡◌, ◌↔◌, ℕ, ◌≤◌, Bool, false, List, map, length}
use Rattle.std.specs.List.{AllByRecursion}
use Rattle.theory_ring.specs.Sign.{Signed}
use Rattle.theory_plane.specs.Box.{OpenBox}
use Rattle.theory_addresses.specs.Address.{Address, depth}
use Rattle.theory_addresses.specs.Search.{IsAmong}
use Rattle.theory_substitution.specs.Points.{Points}
use Rattle.theory_substitution.specs.Rule.{Rule}
use Rattle.theory_substitution.specs.Supertile.{Placed}
use Rattle.theory_dissection.specs.Accepted.{AcceptedRule, NamesTile}
use Rattle.theory_frames.specs.Frame.{at_level}
use Rattle.theory_windows.specs.Distinct.{AreDistinct}
use Rattle.theory_windows.specs.Meeting.{PolygonMeetsBox}
use Rattle.theory_windows.specs.Patch.{Patch, Covers}
use Rattle.theory_windows.specs.EnoughDepth.{AreDrawnAtDepth, IsLeastEnough}
use Rattle.theory_windows.specs.GrownPolygon.{HoldsWindow}
use Rattle.theory_windows.specs.Limits.{IsWithinLimits}
use Rattle.theory_windows.specs.FramePatch.{frame_patch, growing_frame, frame_polygon, tile_of_ancestor}

-- these are the tiles of the patch that meet the window, each exactly once
pub record AreAllThatMeet (S : Signed) (T : Type 0) (P : Patch S T) (box : OpenBox S.ops.carrier)
    (tiles : List T) : Type 0 where
  pub of_patch : AllByRecursion (λ t. IsAmong t P.tiles) tiles
  pub distinct : AreDistinct tiles
  pub meeting : (t : T) → IsAmong t P.tiles → PolygonMeetsBox S box (P.outline t) ↔ IsAmong t tiles

-- n is the least depth, from m to the frame's, at which the frame's polygon holds the centre and none of its
-- edges meets the window
pub record IsLeastDepth (P : Points) (r : Rule P.ring.carrier) (f : Address)
    (box : OpenBox P.real.ops.carrier) (m n : ℕ) : Type 0 where
  pub not_below : m ≤ n
  pub within : n ≤ depth f
  pub holds : HoldsWindow P.real box (frame_polygon P r f n)
  pub least : (k : ℕ) → m ≤ k → k ≤ depth f → HoldsWindow P.real box (frame_polygon P r f k) → n ≤ k

-- there is such a depth; no tile of the frame that meets the window there has a refused shift, and they are
-- no more than the limit
pub record IsWindowWithin (P : Points) (refused : P.ring.carrier → Bool) (r : Rule P.ring.carrier)
    (f : Address) (box : OpenBox P.real.ops.carrier) (m limit : ℕ) : Type 0 where
  pub depth : ℕ
  pub least : IsLeastDepth P r f box m depth
  pub drawn : List (Placed P.ring.carrier)
  pub all_that_meet : AreAllThatMeet P.real (Placed P.ring.carrier) (frame_patch P r (at_level f depth)) box
      drawn
  pub none_refused : AllByRecursion (λ (t : Placed P.ring.carrier). refused t.motion.shift ≡ false) drawn
  pub not_too_many : length drawn ≤ limit

-- the tiles of the frame at depth n that meet a window, lifted, are those drawn at that depth
abbrev pub DrawnLaw : Points → Type 0
DrawnLaw P =
    (T : AcceptedRule P) (f : Address) → NamesTile P T.rule f → (refused : P.ring.carrier → Bool) (n : ℕ)
    → n ≤ depth f → (box : OpenBox P.real.ops.carrier)
    → (tiles : List (Placed P.ring.carrier))
    → AllByRecursion (λ (t : Placed P.ring.carrier). depth t.address ≡ n) tiles
    → AreAllThatMeet P.real (Placed P.ring.carrier) (frame_patch P T.rule (at_level f n)) box tiles
    ↔ AreDrawnAtDepth P.real (Placed P.ring.carrier) (growing_frame P refused T.rule f) box n
    (map (tile_of_ancestor f) tiles)

-- and they cover what they cover lifted
abbrev pub CoversLaw : Points → Type 0
CoversLaw P =
    (T : AcceptedRule P) (f : Address) (n : ℕ) (box : OpenBox P.real.ops.carrier)
    (tiles : List (Placed P.ring.carrier))
    → Covers P.real (Placed P.ring.carrier) (frame_patch P T.rule (at_level f n)) box tiles
    ↔ Covers P.real (Placed P.ring.carrier) (frame_patch P T.rule f) box (map (tile_of_ancestor f) tiles)

-- the least such depth is the least enough one
abbrev pub LeastLaw : Points → Type 0
LeastLaw P =
    (T : AcceptedRule P) (f : Address) → NamesTile P T.rule f
    → (refused : P.ring.carrier → Bool) (box : OpenBox P.real.ops.carrier) (m n : ℕ) → m ≤ depth f
    → IsLeastDepth P T.rule f box m n
    ↔ IsLeastEnough P.real (Placed P.ring.carrier) (growing_frame P refused T.rule f) box m n

-- and a window is within the limits of the frame if and only if it is within those of the patch
abbrev pub WithinLaw : Points → Type 0
WithinLaw P =
    (T : AcceptedRule P) (f : Address) → NamesTile P T.rule f
    → (refused : P.ring.carrier → Bool) (box : OpenBox P.real.ops.carrier) (m limit : ℕ) → m ≤ depth f
    → IsWindowWithin P refused T.rule f box m limit
    ↔ IsWithinLimits P.real (Placed P.ring.carrier) (growing_frame P refused T.rule f) box m limit
