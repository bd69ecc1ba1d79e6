-- Parts of supertiles, and how they lie to a window.
use Rattle.std.specs.Prelude.{◌≡◌, ℕ, ◌<◌, ◌^◌, Bool, cond, List, [], length}
use Rattle.theory_substitution.specs.Supertile.{Placed}
use Rattle.cyclo_points.specs.declared.motion.Motion.{Motion}
use Rattle.cyclo_points.specs.declared.point.Point.{Point}
use Rattle.cyclo_points.specs.Order.{NumberOf, points_of}
use Rattle.cyclo_points.specs.Motion.{motion_in}
use Rattle.cyclo_points.specs.Point.{point_in, IsOf, IsWithin}
use Rattle.theory_frames.specs.Part.{child_motion}
use Rattle.plane_geom.specs.declared.window.Window.{Window}
use Rattle.rule_model.specs.declared.rule.Rule.{Rule}
use Rattle.rule_model.specs.Tiling.{Tiling, tiling_of, its_child}
use Rattle.rule_model.specs.Usable.{origin}
use Rattle.rule_model.specs.Views.{rule_of}
use Rattle.theory_descents.specs.Parts.{tiles_below, drawn_below}
use Rattle.window_descent.specs.declared.part.Part.{Part}
use Rattle.window_descent.specs.declared.standing.Standing.{Standing}
use Rattle.window_descent.specs.declared.standing.Standing.TheVariants.{Beyond, Within, Across}
use Rattle.window_descent.specs.Standing.{window_box}

-- a motion that only turns
abbrev pub only_turned : ℕ → Motion
only_turned turn = record { turn = turn; shift = origin }

-- its kind exists, and its motion is within the limit of coordinates
pub record IsPlacedPart (m : Rule) (p : Part) : Type 0 where
  pub kind_exists : p.kind < length (rule_of m).kinds
  pub turn_below : p.motion.turn < (points_of m.order).order
  pub within : IsWithin (2 ^ 24) p.motion.shift
  pub in_order : IsOf m.order p.motion.shift

-- the part is child number i of a kind, with its shift scaled, in a supertile with this motion
pub record IsPartAt (m : Rule) (kind i : ℕ) (scale : Point) (at : Motion) (p : Part) : Type 0 where
  pub its_kind : p.kind ≡ (its_child (tiling_of m) kind i).kind
  pub its_motion : motion_in m.order p.motion
      ≡ child_motion (points_of m.order) (rule_of m) (point_in m.order scale) (motion_in m.order at)
      (its_child (tiling_of m) kind i)
  pub is_part : IsPlacedPart m p

-- the tiles of a part at a level, and those of them that meet the window
abbrev pub all_of : (t : Tiling) → ℕ → Part → List (Placed (NumberOf t.order))
all_of t level p = tiles_below (points_of t.order) t.rule p.kind level (motion_in t.order p.motion)

abbrev pub drawn_part : (t : Tiling) → Window → ℕ → Part → List (Placed (NumberOf t.order))
drawn_part t w level p = drawn_below (points_of t.order) t.rule (window_box t.order w) p.kind level
    (motion_in t.order p.motion)

-- None of its tiles meets the window, or all do. Only a part of level at least 1 may be neither.
abbrev pub IsPlacedBy : Tiling → Window → ℕ → Part → Standing → Type 0
IsPlacedBy t w level p Beyond = drawn_part t w level p ≡ []
IsPlacedBy t w level p Within = drawn_part t w level p ≡ all_of t level p
IsPlacedBy t w level p Across = 0 < level

abbrev pub standing_of : Bool → Standing
standing_of meets = cond meets Within Beyond
