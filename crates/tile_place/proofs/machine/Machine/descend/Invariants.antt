use Rattle.std.proofs.Common.{◌≡◌, ◌+◌, ◌<◌, ◌^◌, length, map, find}
use Rattle.std.specs.Option.{option_map}
use Rattle.theory_frames.specs.Descent.{tile_below, of_whole}
use Rattle.theory_frames.specs.Looked.{values_below}
use Rattle.cyclo_points.specs.Order.{points_of, is_refused}
use Rattle.cyclo_points.specs.Point.{point_in}
use Rattle.cyclo_points.specs.Motion.{motion_in}
use Rattle.rule_model.specs.Views.{rule_of}
use Rattle.tile_shape.specs.Views.{step_of}
use Rattle.tile_place.specs.Motions.{IsMotionOf}
use Rattle.tile_place.proofs.machine.Machine.descend.Given as goal

-- what is left to do is the same from the part that is reached, behind whose digits those found so far stand
abbrev pub invariant-loop-level : goal.invariant-loop-level
invariant-loop-level l = record {
  values : find (is_refused l.self.order) (values_below (points_of l.self.order) (rule_of l.self) l.top
      l.level (motion_in l.self.order l.motion) (point_in l.self.order l.point))
      ≡ find (is_refused l.self.order) (values_below (points_of l.self.order) (rule_of l.self) l.whole.kind l.whole.depth
      (motion_in l.self.order l.whole.at.now) (point_in l.self.order l.point));
  tile : option_map (of_whole (map step_of l.digits.items))
      (tile_below (points_of l.self.order) (rule_of l.self) l.top l.level (motion_in l.self.order l.motion)
      (point_in l.self.order l.point))
      ≡ tile_below (points_of l.self.order) (rule_of l.self) l.whole.kind l.whole.depth
      (motion_in l.self.order l.whole.at.now) (point_in l.self.order l.point);
  kind_exists : l.top < length (rule_of l.self).kinds;
  moves : IsMotionOf l.self.order (2 ^ 24) l.motion;
  count : length l.digits.items + l.level ≡ l.whole.depth;
}

abbrev pub decreases-loop-level : goal.decreases-loop-level
decreases-loop-level l = l.level
