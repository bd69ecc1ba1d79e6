-- The tiles that a descent from part to part finds.
use Rattle.std.specs.Prelude.{◌≡◌, ℕ, ◌<◌, ◌^◌, Bool, true, false, cond}
use Rattle.std.specs.Prelude.{List, [], ◌∷◌, ◌++◌, map, drop, length}
use Rattle.std.specs.List.{AllByRecursion, flat_map, enumerate_from}
use Rattle.theory_ring.specs.Ring.{power}
use Rattle.theory_plane.specs.Box.{OpenBox}
use Rattle.theory_substitution.specs.Motion.{Motion as MotionOf}
use Rattle.theory_substitution.specs.Points.{Points}
use Rattle.theory_substitution.specs.Rule.{Child, Rule, children_of}
use Rattle.theory_substitution.specs.Supertile.{Placed}
use Rattle.cyclo_points.specs.declared.order.Order.{Order}
use Rattle.cyclo_points.specs.Order.{NumberOf, points_of}
use Rattle.cyclo_points.specs.Motion.{motion_in}
use Rattle.cyclo_points.specs.Point.{IsOf, IsWithin}
use Rattle.theory_frames.specs.Descent.{of_whole}
use Rattle.theory_frames.specs.Part.{child_motion}
use Rattle.plane_geom.specs.declared.window.Window.{Window}
use Rattle.rule_model.specs.Tiling.{Tiling}
use Rattle.tile_shape.specs.declared.step.Step.{Step}
use Rattle.theory_addresses.specs.Address.{Step as TheStep}
use Rattle.tile_shape.specs.Views.{step_of}
use Rattle.theory_descents.specs.Parts.{digit, tiles_below, drawn_below}
use Rattle.window_descent.specs.declared.part.Part.{Part}
use Rattle.window_descent.specs.declared.standing.Standing.{Standing}
use Rattle.window_descent.specs.declared.standing.Standing.TheVariants.{Beyond, Within, Across}
use Rattle.window_cover.specs.Found.{Found, address_found, CoverValue}
use Rattle.window_cover.specs.Windows.{TileOf, box_of}

-- a tile found, with only its own digits
abbrev pub tile_in : (o : Order) → Found → Placed (NumberOf o)
tile_in o x = record { address = address_found x; motion = motion_in o x.motion }

abbrev pub tiles_in : (o : Order) → List Found → List (Placed (NumberOf o))
tiles_in o xs = map (tile_in o) xs

-- its kind exists, and its motion is within the limits
pub record IsKeptTile (t : Tiling) (x : Found) : Type 0 where
  pub kind_exists : x.kind < length t.rule.kinds
  pub turn_below : x.motion.turn < (points_of t.order).order
  pub within : IsWithin (2 ^ 24) x.motion.shift
  pub in_order : IsOf t.order x.motion.shift

-- all tiles of a part, or those that meet the box
abbrev pub found_below : (P : Points) → Rule P.ring.carrier → OpenBox P.real.ops.carrier → Bool → ℕ → ℕ
    → MotionOf P.ring.carrier → List (Placed P.ring.carrier)
found_below P r box all k n m = cond all (tiles_below P r k n m) (drawn_below P r box k n m)

abbrev pub found_of : (t : Tiling) → Window → Bool → ℕ → Part → List (TileOf t)
found_of t w all level p = found_below (points_of t.order) t.rule (box_of t w) all p.kind level
    (motion_in t.order p.motion)

-- the coarser digits of a path
abbrev pub digits_above : ℕ → List Step → List TheStep
digits_above level path = map step_of (drop level path)

-- the list goes on after those before
pub record HasMore (before after : List Found) : Type 0 where
  pub more : List Found
  pub is : after ≡ before ++ more

-- These tiles are found after those before, with the coarser digits of the path after their own. The path
-- keeps its coarser digits.
pub record IsDescended (t : Tiling) (c d : CoverValue) (before after : List Step) (all : Bool) (level : ℕ)
    (p : Part) : Type 0 where
  pub same_window : d.window ≡ c.window
  pub same_border : d.border ≡ c.border
  pub same_above : drop level after ≡ drop level before
  pub longer : HasMore c.found d.found
  pub found : tiles_in t.order d.found ≡ tiles_in t.order c.found
      ++ map (of_whole (digits_above level before)) (found_of t c.window all level p)
  pub kept : AllByRecursion (IsKeptTile t) c.found → AllByRecursion (IsKeptTile t) d.found

-- How a part lies to the window. If all tiles of a part are wanted, it is taken as within.
abbrev pub IsJudged : Tiling → Window → Bool → ℕ → Part → Standing → Type 0
IsJudged t w all level p Beyond = found_of t w all level p ≡ []
IsJudged t w all level p Within = found_of t w all level p ≡ found_of t w true level p
IsJudged t w all level p Across = (all ≡ false) × (0 < level)

-- one tile more
pub record IsTakenIn (c d : CoverValue) (x : Found) : Type 0 where
  pub same_window : d.window ≡ c.window
  pub same_border : d.border ≡ c.border
  pub found : d.found ≡ c.found ++ x ∷ []

abbrev pub found_part : Part → List Step → Found
found_part p digits = record { kind = p.kind; motion = p.motion; digits = map step_of digits }

-- the tiles of a part's children from number i on; the children are one level below
abbrev pub from_number : (t : Tiling) → Window → Bool → ℕ → Part → ℕ → List (TileOf t)
from_number t w all below p i =
    flat_map (λ (c : ℕ × Child (NumberOf t.order)). map (of_whole (digit c.0 p.kind))
    (found_below (points_of t.order) t.rule (box_of t w) all c.1.kind below
    (child_motion (points_of t.order) t.rule (power (points_of t.order).ring t.rule.factor below)
    (motion_in t.order p.motion) c.1)))
    (enumerate_from i (drop i (children_of t.rule p.kind)))
