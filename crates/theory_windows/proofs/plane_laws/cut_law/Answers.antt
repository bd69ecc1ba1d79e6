use Rattle.cyclo_points.specs.Order.{points_of}
use Rattle.cyclo_points.proofs.OrderLaws.{laws_of}
use Rattle.theory_windows.proofs.Carried as law
use Rattle.theory_windows.proofs.plane_laws.cut_law.Goals as goal

pub returns-clause-one : goal.returns-clause-one
returns-clause-one c = law.cut_law (points_of c.args.order) (laws_of c.args.order)

pub returns-clause-many : goal.returns-clause-many
returns-clause-many c = law.cuts_law (points_of c.args.order) (laws_of c.args.order)
