-- Prototiles that are scaled and moved.
use Rattle.std.specs.Prelude.{ℕ, ◌<◌, ◌^◌, List, length, Bool}
use Rattle.theory_frames.specs.Outline.{outline, holds_point}
use Rattle.cyclo_points.specs.declared.motion.Motion.{Motion}
use Rattle.cyclo_points.specs.declared.point.Point.{Point}
use Rattle.cyclo_points.specs.Motion.{motion_in}
use Rattle.cyclo_points.specs.Order.{NumberOf, points_of}
use Rattle.cyclo_points.specs.Point.{point_in, IsWithin}
use Rattle.rule_model.specs.declared.rule.Rule.{Rule}
use Rattle.rule_model.specs.Views.{rule_of}
use Rattle.tile_place.specs.declared.inflated_tile.InflatedTile.{InflatedTile}
use Rattle.tile_place.specs.Motions.{IsMotionOf}

-- its kind exists, and its scale and its motion are within the limit of coordinates
pub record IsInflatedTile (m : Rule) (x : InflatedTile) : Type 0 where
  pub kind_exists : x.kind < length (rule_of m).kinds
  pub scale_within : IsWithin (2 ^ 24) x.scale.now
  pub moves : IsMotionOf m.order (2 ^ 24) x.at.now

-- the vertices of a kind, scaled and moved
abbrev pub outline_at : (m : Rule) → ℕ → Point → Motion → List (NumberOf m.order)
outline_at m kind scale at =
    outline (points_of m.order) (rule_of m) kind (point_in m.order scale) (motion_in m.order at)

-- its vertices
abbrev pub outline_in : (m : Rule) → InflatedTile → List (NumberOf m.order)
outline_in m x = outline_at m x.kind x.scale.now x.at.now

-- whether the polygon of vertices holds a point
abbrev pub do_hold : (m : Rule) → List (NumberOf m.order) → Point → Bool
do_hold m vertices p = holds_point (points_of m.order) vertices (point_in m.order p)
