use Rattle.cyclo_points.specs.Order.{points_of}
use Rattle.cyclo_points.proofs.OrderLaws.{laws_of}
use Rattle.theory_stars.proofs.Carried as law
use Rattle.theory_stars.proofs.frame_off_law.Goals as goal

pub returns-clause-off : goal.returns-clause-off
returns-clause-off c = law.frame_off_law (points_of c.args.order) (laws_of c.args.order)

pub returns-clause-least : goal.returns-clause-least
returns-clause-least c = law.frame_least_law (points_of c.args.order) (laws_of c.args.order)
