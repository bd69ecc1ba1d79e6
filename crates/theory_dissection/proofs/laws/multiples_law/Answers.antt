use Rattle.cyclo_points.specs.Order.{points_of}
use Rattle.cyclo_points.proofs.OrderLaws.{laws_of}
use Rattle.theory_dissection.proofs.Carried as law
use Rattle.theory_dissection.proofs.laws.multiples_law.Goals as goal

pub returns : goal.returns
returns c = law.multiples_law (points_of c.args.order) (laws_of c.args.order)
