-- A point without coefficients, which stands where a list of points has ended.
use Rattle.std.proofs.Common.{[]}
use Rattle.cyclo_points.specs.declared.point.Point.{Point}

unfoldable pub nowhere : Point
nowhere = record { c = [] }
