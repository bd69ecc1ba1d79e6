use Rattle.cyclo_points.specs.Order.{points_of}
use Rattle.cyclo_points.proofs.OrderLaws.{laws_of}
use Rattle.cyclo_points.proofs.Divisors.{divisors_of}
use Rattle.theory_windows.proofs.Carried as law
use Rattle.theory_windows.proofs.search_laws.limits_law.Goals as goal

pub returns-clause-onward : goal.returns-clause-onward
returns-clause-onward c = law.goes_on_law (points_of c.args.order) (laws_of c.args.order) (divisors_of c.args.order)

pub returns-clause-end : goal.returns-clause-end
returns-clause-end c = law.ends_within_law (points_of c.args.order) (laws_of c.args.order) (divisors_of c.args.order)
