use Rattle.cyclo_points.specs.Order.{points_of}
use Rattle.cyclo_points.proofs.OrderLaws.{laws_of}
use Rattle.theory_stars.proofs.Carried as law
use Rattle.theory_stars.proofs.star_refusal_law.Goals as goal

pub returns-clause-depth : goal.returns-clause-depth
returns-clause-depth c = law.depth_law (points_of c.args.order) (laws_of c.args.order)

pub returns-clause-count : goal.returns-clause-count
returns-clause-count c = law.count_law (points_of c.args.order) (laws_of c.args.order)
