use Rattle.std.proofs.Common.{◌≡◌, pos, to_z, arith}
use Rattle.std.specs.Int.{w128}
use Rattle.std.proofs.lemmas.Int.{ints}
use Rattle.cyclo_points.proofs.Within.{whole_is}
use Rattle.plane_geom.proofs.half_plane.whole.Goals as goal

pub returns-clause-value : goal.returns-clause-value
returns-clause-value c =
    let fits = c.ranges.n.fits in
    let e : to_z w128 c.args.n ≡ pos c.args.n = omega (arith, ints) in
    whole_is c.args.order (to_z w128 c.args.n) c.args.n e
