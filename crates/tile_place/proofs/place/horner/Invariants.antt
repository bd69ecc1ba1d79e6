use Rattle.std.proofs.Common.{◌≤◌, ◌^◌, length, map}
use Rattle.cyclo_points.specs.Motion.{motion_in}
use Rattle.tile_shape.specs.Views.{step_of}
use Rattle.tile_place.specs.Motions.{IsMotionOf}
use Rattle.tile_place.proofs.Descent.{Descends}
use Rattle.tile_place.proofs.place.horner.Given as goal

-- the motion after the digits from this level up
abbrev pub invariant-loop-level : goal.invariant-loop-level
invariant-loop-level g l = let t = g.P.Placing.tiling l.rule in record {
  level : l.level ≤ length l.digits;
  descends : Descends t.order t.rule (map step_of l.digits) l.level (motion_in t.order l.motion);
  moves : IsMotionOf t.order (2 ^ 24) l.motion;
}

abbrev pub decreases-loop-level : goal.decreases-loop-level
decreases-loop-level g l = l.level
