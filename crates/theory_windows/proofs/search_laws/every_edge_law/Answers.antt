use Rattle.cyclo_points.specs.Order.{points_of}
use Rattle.cyclo_points.proofs.OrderLaws.{laws_of}
use Rattle.cyclo_points.proofs.Divisors.{divisors_of}
use Rattle.theory_windows.proofs.Carried as law
use Rattle.theory_windows.proofs.search_laws.every_edge_law.Goals as goal

pub returns-clause-found_or_open : goal.returns-clause-found_or_open
returns-clause-found_or_open c = law.found_or_open_law (points_of c.args.order) (laws_of c.args.order) (divisors_of c.args.order)

pub returns-clause-none_open : goal.returns-clause-none_open
returns-clause-none_open c = law.none_open_law (points_of c.args.order) (laws_of c.args.order) (divisors_of c.args.order)
