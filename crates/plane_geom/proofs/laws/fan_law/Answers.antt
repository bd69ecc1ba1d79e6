use Rattle.plane_geom.specs.Spots.{reals_of}
use Rattle.theory_plane.proofs.Fan.{count-fan}
use Rattle.plane_geom.proofs.laws.fan_law.Goals as goal

pub returns : goal.returns
returns c =
    let w = c.points_law.ensures in
    λ vs p. count-fan (reals_of c.args.order) w.of_real w.of_order p vs
