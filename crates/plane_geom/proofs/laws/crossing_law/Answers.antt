use Rattle.plane_geom.specs.Spots.{reals_of}
use Rattle.theory_plane.proofs.Crossing.{crossing-turned, crossing-parts}
use Rattle.theory_plane.proofs.OnSegment.{between-on_segment}
use Rattle.plane_geom.proofs.laws.crossing_law.Goals as goal

pub returns-clause-antisymmetric : goal.returns-clause-antisymmetric
returns-clause-antisymmetric c =
    let w = c.points_law.ensures in
    λ a b p. crossing-turned (reals_of c.args.order) w.of_real w.of_order a b p

pub returns-clause-additive : goal.returns-clause-additive
returns-clause-additive c =
    let w = c.points_law.ensures in
    λ a b m p h. crossing-parts (reals_of c.args.order) w.of_real w.of_order a b m p
    (between-on_segment (reals_of c.args.order) w.of_real w.of_order a b m h)
