use Rattle.cyclo_points.specs.Order.{points_of}
use Rattle.cyclo_points.proofs.OrderLaws.{laws_of}
use Rattle.cyclo_points.proofs.Divisors.{divisors_of}
use Rattle.theory_windows.proofs.CarriedFrames as law
use Rattle.theory_windows.proofs.cover_laws.frame_search_law.Goals as goal

pub returns-clause-start : goal.returns-clause-start
returns-clause-start c = law.frame_start_law (points_of c.args.order) (laws_of c.args.order) (divisors_of c.args.order)

pub returns-clause-step : goal.returns-clause-step
returns-clause-step c = law.frame_step_law (points_of c.args.order) (laws_of c.args.order) (divisors_of c.args.order)

pub returns-clause-finish : goal.returns-clause-finish
returns-clause-finish c = law.frame_finish_law (points_of c.args.order) (laws_of c.args.order) (divisors_of c.args.order)
