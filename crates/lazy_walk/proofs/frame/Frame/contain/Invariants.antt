use Rattle.std.proofs.Common.{◌-◌}
use Rattle.cyclo_points.specs.Point.{point_in}
use Rattle.lazy_walk.proofs.Searching.{IsOutward}
use Rattle.lazy_walk.proofs.frame.Frame.contain.Given as goal

abbrev pub invariant-loop-self : goal.invariant-loop-self
invariant-loop-self l = IsOutward l.machine l.fn.self (point_in l.machine.order l.point) l.self l.ancestor

abbrev pub decreases-loop-self : goal.decreases-loop-self
decreases-loop-self l = 64 - l.ancestor.level
