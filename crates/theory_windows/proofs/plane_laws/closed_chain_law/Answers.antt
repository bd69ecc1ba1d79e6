use Rattle.cyclo_points.specs.Order.{points_of}
use Rattle.cyclo_points.proofs.OrderLaws.{laws_of}
use Rattle.cyclo_points.proofs.Divisors.{divisors_of}
use Rattle.theory_windows.proofs.Carried as law
use Rattle.theory_windows.proofs.plane_laws.closed_chain_law.Goals as goal

pub returns-clause-one : goal.returns-clause-one
returns-clause-one c = law.closed_chain_law (points_of c.args.order) (laws_of c.args.order) (divisors_of c.args.order)

pub returns-clause-together : goal.returns-clause-together
returns-clause-together c = law.closed_chains_law (points_of c.args.order) (laws_of c.args.order) (divisors_of c.args.order)
