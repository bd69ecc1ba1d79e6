use Rattle.cyclo_points.specs.Order.{points_of}
use Rattle.cyclo_points.proofs.OrderLaws.{laws_of}
use Rattle.cyclo_points.proofs.Divisors.{divisors_of}
use Rattle.theory_listings.proofs.Carried as law
use Rattle.theory_listings.proofs.walk_fault_law.Goals as goal

pub returns-clause-beyond : goal.returns-clause-beyond
returns-clause-beyond c = law.beyond_law (points_of c.args.order) (laws_of c.args.order) (divisors_of c.args.order)

pub returns-clause-stop : goal.returns-clause-stop
returns-clause-stop c = law.stop_law (points_of c.args.order) (laws_of c.args.order) (divisors_of c.args.order)

pub returns-clause-none : goal.returns-clause-none
returns-clause-none c = law.no_fault_law (points_of c.args.order) (laws_of c.args.order) (divisors_of c.args.order)
