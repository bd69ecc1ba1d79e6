use Rattle.cyclo_points.specs.Order.{points_of}
use Rattle.cyclo_points.proofs.OrderLaws.{laws_of}
use Rattle.cyclo_points.proofs.Divisors.{divisors_of}
use Rattle.theory_listings.proofs.Carried as law
use Rattle.theory_listings.proofs.walk_law.Goals as goal

pub returns : goal.returns
returns c = law.walk_law (points_of c.args.order) (laws_of c.args.order) (divisors_of c.args.order)
