use Rattle.cyclo_points.specs.Order.{points_of}
use Rattle.cyclo_points.proofs.OrderLaws.{laws_of}
use Rattle.theory_windows.proofs.Carried as law
use Rattle.theory_windows.proofs.patch_laws.gluing_law.Goals as goal

pub returns-clause-rotation : goal.returns-clause-rotation
returns-clause-rotation c = law.rotation_law (points_of c.args.order) (laws_of c.args.order)

pub returns-clause-gluing : goal.returns-clause-gluing
returns-clause-gluing c = law.gluing_law (points_of c.args.order) (laws_of c.args.order)

pub returns-clause-covering : goal.returns-clause-covering
returns-clause-covering c = law.wholes_law (points_of c.args.order) (laws_of c.args.order)
