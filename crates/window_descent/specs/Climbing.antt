-- The first ancestor of a base that holds a window.
use Rattle.std.specs.Prelude.{◌≡◌, ℕ, ◌≤◌, Bool, true, false}
use Rattle.theory_addresses.specs.Address.{Address}
use Rattle.cyclo_points.specs.Order.{points_of}
use Rattle.plane_geom.specs.declared.window.Window.{Window}
use Rattle.plane_geom.specs.Spots.{reals_of}
use Rattle.rule_model.specs.Tiling.{Tiling}
use Rattle.theory_descents.specs.Climb.{holds_window, ancestor_polygon, IsFirstHolding}
use Rattle.window_descent.specs.Standing.{window_box}

-- true if the base's ancestor at a level holds the window
abbrev pub holds_at : (t : Tiling) → Address → Window → ℕ → Bool
holds_at t f w n = holds_window (reals_of t.order) (window_box t.order w)
    (ancestor_polygon (points_of t.order) t.rule f n)

-- what a test of one level shows
pub record IsTried (t : Tiling) (f : Address) (w : Window) (from level : ℕ) (passes : Bool) : Type 0 where
  pub found : passes ≡ true → (from ≤ level) × (holds_at t f w level ≡ true)
  pub not_found : passes ≡ false → from ≤ level → holds_at t f w level ≡ false

abbrev pub IsClimbedTo : (t : Tiling) → Address → Window → ℕ → ℕ → Type 0
IsClimbedTo t f w from n = IsFirstHolding (points_of t.order) t.rule f (window_box t.order w) from n
