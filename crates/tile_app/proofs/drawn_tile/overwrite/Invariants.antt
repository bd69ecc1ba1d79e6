use Rattle.std.proofs.Common.{◌≡◌, All, drop, map, take, length}
use Rattle.cyclo_points.specs.Motion.{motion_in}
use Rattle.cyclo_points.specs.Order.{points_of}
use Rattle.layer_api.specs.Drawable.{IsNear}
use Rattle.rule_model.specs.Views.{rule_of}
use Rattle.theory_substitution.specs.Motion.{moved}
use Rattle.theory_substitution.specs.RuleParts.{vertices_of}
use Rattle.tile_app.specs.DrawnTile.{point_of_number}
use Rattle.tile_app.proofs.drawn_tile.overwrite.Given as goal

-- the vertices before are placed
abbrev pub invariant-loop-number : goal.invariant-loop-number
invariant-loop-number l = record {
  as_many : length l.points ≡ length l.fn.points;
  near : All (IsNear l.machine.order) (take l.number l.points);
  placed : take l.number l.points ≡ map (λ z. point_of_number l.machine.order
      (moved (points_of l.machine.order) (motion_in l.machine.order l.part.motion) z))
      (take l.number (drop l.first (vertices_of (rule_of l.machine) l.part.kind)));
}
