use Rattle.cyclo_points.specs.Order.{points_of}
use Rattle.cyclo_points.proofs.OrderLaws.{laws_of}
use Rattle.cyclo_points.proofs.Divisors.{divisors_of}
use Rattle.theory_listings.proofs.Carried as law
use Rattle.theory_listings.proofs.right_listing_law.Goals as goal

pub returns-clause-right : goal.returns-clause-right
returns-clause-right c = law.right_law (points_of c.args.order) (laws_of c.args.order) (divisors_of c.args.order)

pub returns-clause-no_fault : goal.returns-clause-no_fault
returns-clause-no_fault c = law.no_list_fault_law (points_of c.args.order) (laws_of c.args.order) (divisors_of c.args.order)

pub returns-clause-lifted : goal.returns-clause-lifted
returns-clause-lifted c = law.lifted_law (points_of c.args.order) (laws_of c.args.order) (divisors_of c.args.order)
