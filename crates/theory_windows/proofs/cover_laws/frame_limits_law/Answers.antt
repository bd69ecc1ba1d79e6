use Rattle.cyclo_points.specs.Order.{points_of}
use Rattle.cyclo_points.proofs.OrderLaws.{laws_of}
use Rattle.cyclo_points.proofs.Divisors.{divisors_of}
use Rattle.theory_windows.proofs.CarriedFrames as law
use Rattle.theory_windows.proofs.cover_laws.frame_limits_law.Goals as goal

pub returns-clause-stop : goal.returns-clause-stop
returns-clause-stop c = law.frame_stop_law (points_of c.args.order) (laws_of c.args.order) (divisors_of c.args.order)

pub returns-clause-onward : goal.returns-clause-onward
returns-clause-onward c = law.frame_goes_on_law (points_of c.args.order) (laws_of c.args.order) (divisors_of c.args.order)

pub returns-clause-end : goal.returns-clause-end
returns-clause-end c = law.frame_ends_law (points_of c.args.order) (laws_of c.args.order) (divisors_of c.args.order)
