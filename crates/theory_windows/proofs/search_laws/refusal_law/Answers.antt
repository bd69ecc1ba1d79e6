use Rattle.cyclo_points.specs.Order.{points_of}
use Rattle.cyclo_points.proofs.OrderLaws.{laws_of}
use Rattle.cyclo_points.proofs.Divisors.{divisors_of}
use Rattle.theory_windows.proofs.Carried as law
use Rattle.theory_windows.proofs.search_laws.refusal_law.Goals as goal

pub returns-clause-depth : goal.returns-clause-depth
returns-clause-depth c = law.depth_refusal_law (points_of c.args.order) (laws_of c.args.order) (divisors_of c.args.order)

pub returns-clause-drawn : goal.returns-clause-drawn
returns-clause-drawn c = law.all_drawn_law (points_of c.args.order) (laws_of c.args.order) (divisors_of c.args.order)

pub returns-clause-count : goal.returns-clause-count
returns-clause-count c = law.count_refusal_law (points_of c.args.order) (laws_of c.args.order) (divisors_of c.args.order)
