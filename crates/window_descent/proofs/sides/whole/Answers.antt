use Rattle.std.proofs.Common.{◌≡◌, pos, to_z, of_z, arith}
use Rattle.std.specs.Int.{w128}
use Rattle.std.proofs.lemmas.Int.{ints}
use Rattle.cyclo_points.proofs.Within.{whole_is}
use Rattle.window_descent.proofs.sides.whole.Goals as goal

pub returns-clause-value : goal.returns-clause-value
returns-clause-value c =
    let fits = c.ranges.n.fits in
    let from = c.from.ensures in
    let e : to_z w128 (of_z w128 c.from.result) ≡ pos c.args.n = omega (arith, ints) in
    whole_is c.args.order (to_z w128 (of_z w128 c.from.result)) c.args.n e
