use Rattle.plane_geom.specs.Spots.{reals_of}
use Rattle.theory_plane.proofs.Triangle.{denominator_pos, triangle-good}
use Rattle.theory_plane.proofs.Separated.{separated-apart}
use Rattle.plane_geom.proofs.laws.triangle_law.Goals as goal

pub returns-clause-zero_or_one : goal.returns-clause-zero_or_one
returns-clause-zero_or_one c =
    let w = c.points_law.ensures in
    λ t p d. triangle-good (reals_of c.args.order) w.of_real w.of_order t p (denominator_pos (reals_of c.args.order) w.of_real w.of_order p d)

pub returns-clause-nothing_shared : goal.returns-clause-nothing_shared
returns-clause-nothing_shared c =
    let w = c.points_law.ensures in
    λ t u p d. separated-apart (reals_of c.args.order) w.of_real w.of_order p (denominator_pos (reals_of c.args.order) w.of_real w.of_order p d) t u
