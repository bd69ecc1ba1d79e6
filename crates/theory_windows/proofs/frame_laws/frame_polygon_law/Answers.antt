use Rattle.cyclo_points.specs.Order.{points_of}
use Rattle.cyclo_points.proofs.OrderLaws.{laws_of}
use Rattle.theory_windows.proofs.CarriedFrames as law
use Rattle.theory_windows.proofs.frame_laws.frame_polygon_law.Goals as goal

pub returns-clause-whole : goal.returns-clause-whole
returns-clause-whole c = law.frame_polygon_law (points_of c.args.order) (laws_of c.args.order)

pub returns-clause-enough : goal.returns-clause-enough
returns-clause-enough c = law.frame_enough_law (points_of c.args.order) (laws_of c.args.order)
