use Rattle.cyclo_points.proofs.Divisors.{divisors_of}
use Rattle.cyclo_points.proofs.divisors_law.Goals as goal

pub returns : goal.returns
returns c = divisors_of c.args.order
