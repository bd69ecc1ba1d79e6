use Rattle.cyclo_points.specs.Order.{points_of}
use Rattle.theory_substitution.proofs.Lengths.{motion-length}
use Rattle.theory_substitution.proofs.Keeping.{motion-keeps}
use Rattle.plane_geom.proofs.laws.motion_law.Goals as goal

pub returns-clause-keeps : goal.returns-clause-keeps
returns-clause-keeps c = motion-keeps (points_of c.args.order) c.points_law.ensures

pub returns-clause-isometry : goal.returns-clause-isometry
returns-clause-isometry c = motion-length (points_of c.args.order) c.points_law.ensures
