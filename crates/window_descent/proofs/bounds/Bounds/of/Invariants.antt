use Rattle.std.proofs.Common.{take}
use Rattle.std.specs.List.{AllByRecursion}
use Rattle.plane_geom.specs.Spots.{spot_of}
use Rattle.window_descent.specs.Bounds.{IsEnclosed}
use Rattle.window_descent.proofs.bounds.Bounds.of.Given as goal

abbrev pub invariant-loop-point : goal.invariant-loop-point
invariant-loop-point l = AllByRecursion (λ p. IsEnclosed l.order l.bounds (spot_of l.order p)) (take l.point-index l.points)
