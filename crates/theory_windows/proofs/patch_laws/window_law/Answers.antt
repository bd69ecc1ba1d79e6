use Rattle.cyclo_points.specs.Order.{points_of}
use Rattle.cyclo_points.proofs.OrderLaws.{laws_of}
use Rattle.cyclo_points.proofs.Divisors.{divisors_of}
use Rattle.theory_windows.proofs.Carried as law
use Rattle.theory_windows.proofs.patch_laws.window_law.Goals as goal

pub returns-clause-found : goal.returns-clause-found
returns-clause-found c = law.window_law (points_of c.args.order) (laws_of c.args.order) (divisors_of c.args.order)

pub returns-clause-answers : goal.returns-clause-answers
returns-clause-answers c = law.search_answers_law (points_of c.args.order) (laws_of c.args.order) (divisors_of c.args.order)

pub returns-clause-ends : goal.returns-clause-ends
returns-clause-ends c = law.search_ends_law (points_of c.args.order) (laws_of c.args.order) (divisors_of c.args.order)
