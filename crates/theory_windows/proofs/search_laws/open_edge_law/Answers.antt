use Rattle.cyclo_points.specs.Order.{points_of}
use Rattle.cyclo_points.proofs.OrderLaws.{laws_of}
use Rattle.cyclo_points.proofs.Divisors.{divisors_of}
use Rattle.theory_windows.proofs.Carried as law
use Rattle.theory_windows.proofs.search_laws.open_edge_law.Goals as goal

pub returns-clause-tested : goal.returns-clause-tested
returns-clause-tested c = law.open_test_law (points_of c.args.order) (laws_of c.args.order) (divisors_of c.args.order)

pub returns-clause-step : goal.returns-clause-step
returns-clause-step c = law.open_step_law (points_of c.args.order) (laws_of c.args.order) (divisors_of c.args.order)

pub returns-clause-numbers : goal.returns-clause-numbers
returns-clause-numbers c = law.open_number_law (points_of c.args.order) (laws_of c.args.order) (divisors_of c.args.order)
