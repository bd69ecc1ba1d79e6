use Rattle.cyclo_points.specs.Order.{points_of}
use Rattle.cyclo_points.proofs.OrderLaws.{laws_of}
use Rattle.theory_windows.proofs.Carried as law
use Rattle.theory_windows.proofs.plane_laws.edge_meets_law.Goals as goal

pub returns-clause-triangle : goal.returns-clause-triangle
returns-clause-triangle c = law.triangle_law (points_of c.args.order) (laws_of c.args.order)

pub returns-clause-polygon : goal.returns-clause-polygon
returns-clause-polygon c = law.polygon_law (points_of c.args.order) (laws_of c.args.order)
