use Rattle.std.proofs.Common.{◌≡◌, IfSome, length, drop, find}
use Rattle.std.specs.Option.{option_map}
use Rattle.theory_substitution.specs.Rule.{children_of}
use Rattle.theory_frames.specs.Part.{holder}
use Rattle.theory_frames.specs.Looked.{values_of_children}
use Rattle.cyclo_points.specs.Order.{points_of, is_refused}
use Rattle.cyclo_points.specs.Point.{point_in}
use Rattle.cyclo_points.specs.Motion.{motion_in}
use Rattle.rule_model.specs.Views.{rule_of}
use Rattle.theory_addresses.specs.Search.{or_else}
use Rattle.tile_place.specs.Parts.{part_in, IsPart}
use Rattle.tile_place.proofs.machine.Machine.holder.Given as goal

-- the one held so far, or else the first further on that holds the point
abbrev pub invariant-loop-number : goal.invariant-loop-number
invariant-loop-number l = record {
  held : or_else (option_map (part_in l.self.order) l.held)
      (holder (points_of l.self.order) (rule_of l.self) (point_in l.self.order l.whole.scale.now)
      (motion_in l.self.order l.whole.at.now) (point_in l.self.order l.point) l.number
      (drop l.number (children_of (rule_of l.self) l.whole.kind)))
      ≡ holder (points_of l.self.order) (rule_of l.self) (point_in l.self.order l.whole.scale.now)
      (motion_in l.self.order l.whole.at.now) (point_in l.self.order l.point) 0
      (children_of (rule_of l.self) l.whole.kind);
  first : find (is_refused l.self.order) (values_of_children (points_of l.self.order) (rule_of l.self)
      (point_in l.self.order l.whole.scale.now) (motion_in l.self.order l.whole.at.now)
      (drop l.number (children_of (rule_of l.self) l.whole.kind)))
      ≡ find (is_refused l.self.order) (values_of_children (points_of l.self.order) (rule_of l.self)
      (point_in l.self.order l.whole.scale.now) (motion_in l.self.order l.whole.at.now)
      (children_of (rule_of l.self) l.whole.kind));
  is_part : IfSome l.held (IsPart l.self);
  all : l.count ≡ length (children_of (rule_of l.self) l.whole.kind);
}
