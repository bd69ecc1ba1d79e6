use Rattle.std.proofs.Common.{take}
use Rattle.window_descent.specs.Sides.{AllSides, SomeSides}
use Rattle.window_descent.proofs.standing.beside.Given as goal

abbrev pub invariant-loop-corner : goal.invariant-loop-corner
invariant-loop-corner l = record {
  every : AllSides l.order l.window (take l.corner-index l.corners) l.every;
  some : SomeSides l.order l.window (take l.corner-index l.corners) l.some;
}
