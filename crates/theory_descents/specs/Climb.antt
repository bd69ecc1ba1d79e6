-- The climb: from level to level, to the first ancestor of the base whose polygon holds the centre of a
-- window and has no edge that meets it.
use Rattle.std.specs.Prelude.{◌≡◌, ◌↔◌, ℕ, ◌<◌, ◌≤◌, Bool, true, false, not, ◌&&◌}
use Rattle.std.specs.List.{list_any}
use Rattle.theory_ring.specs.Sign.{Signed}
use Rattle.theory_plane.specs.Plane.{test_point}
use Rattle.theory_plane.specs.Crossing.{member}
use Rattle.theory_plane.specs.Box.{OpenBox}
use Rattle.theory_plane.specs.BoxTest.{box_test}
use Rattle.theory_addresses.specs.Address.{Address, depth, top_kind}
use Rattle.theory_substitution.specs.Points.{Points}
use Rattle.theory_substitution.specs.Rule.{Rule}
use Rattle.theory_frames.specs.Contain.{ancestor_motion}
use Rattle.theory_frames.specs.Frame.{at_level}
use Rattle.theory_windows.specs.Outlines.{Polygon, edges}
use Rattle.theory_windows.specs.GrownPolygon.{HoldsWindow}
use Rattle.theory_descents.specs.Parts.{part_polygon}

-- the test of a polygon
abbrev pub holds_window : (S : Signed) → OpenBox S.ops.carrier → Polygon S → Bool
holds_window S box polygon = member S polygon (test_point S.ops box.centre)
    && not (list_any (λ e. box_test S e.from e.to box) (edges polygon))

abbrev pub HoldsByTest : Signed → Type 0
HoldsByTest S = (box : OpenBox S.ops.carrier) (polygon : Polygon S) → (holds_window S box polygon ≡ true)
    ↔ HoldsWindow S box polygon

-- the polygon of the base's ancestor at a level, in the base's frame
abbrev pub ancestor_polygon : (P : Points) → Rule P.ring.carrier → Address → ℕ → Polygon P.real
ancestor_polygon P r f n = part_polygon P r (top_kind (at_level f n)) n (ancestor_motion P r f n)

-- n is the first level from m on at which it passes
pub record IsFirstHolding (P : Points) (r : Rule P.ring.carrier) (f : Address)
    (box : OpenBox P.real.ops.carrier) (m n : ℕ) : Type 0 where
  pub not_below : m ≤ n
  pub within : n ≤ depth f
  pub holds : holds_window P.real box (ancestor_polygon P r f n) ≡ true
  pub none_before : (k : ℕ) → m ≤ k → k < n → holds_window P.real box (ancestor_polygon P r f k) ≡ false
