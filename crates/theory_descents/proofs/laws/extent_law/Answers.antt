use Rattle.cyclo_points.specs.Order.{points_of}
use Rattle.cyclo_points.proofs.OrderLaws.{laws_of}
use Rattle.cyclo_points.proofs.Divisors.{divisors_of}
use Rattle.theory_descents.proofs.Carried as law
use Rattle.theory_descents.proofs.laws.extent_law.Goals as goal

pub returns-clause-beyond : goal.returns-clause-beyond
returns-clause-beyond c = law.beyond_law (points_of c.args.order) (laws_of c.args.order)

pub returns-clause-within : goal.returns-clause-within
returns-clause-within c = law.inside_law (points_of c.args.order) (laws_of c.args.order)

pub returns-clause-test : goal.returns-clause-test
returns-clause-test c = law.test_law (points_of c.args.order) (laws_of c.args.order) (divisors_of c.args.order)

pub returns-clause-point : goal.returns-clause-point
returns-clause-point c = law.point_law (points_of c.args.order) (laws_of c.args.order) (divisors_of c.args.order)
