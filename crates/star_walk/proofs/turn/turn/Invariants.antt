use Rattle.std.proofs.Common.{◌-◌, ◌<◌, ◌++◌, ◌∷◌, [], length}
use Rattle.rule_model.specs.Tiling.{tiling_of}
use Rattle.star_walk.specs.Found.{IsOnTheWay}
use Rattle.star_walk.proofs.turn.turn.Given as goal

abbrev pub invariant-loop-frame : goal.invariant-loop-frame
invariant-loop-frame g l = IsOnTheWay (tiling_of l.machine) l.fn.frame l.frame l.fn.vertex
    (l.corners.items ++ l.corner ∷ []) l.corner × (length l.corners.items < 64)

abbrev pub decreases-loop-frame : goal.decreases-loop-frame
decreases-loop-frame g l = 64 - length l.corners.items
