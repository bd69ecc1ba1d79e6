use Rattle.cyclo_points.specs.Order.{points_of}
use Rattle.cyclo_points.proofs.OrderLaws.{laws_of}
use Rattle.cyclo_points.proofs.Divisors.{divisors_of}
use Rattle.theory_listings.proofs.Carried as law
use Rattle.theory_listings.proofs.frame_walk_law.Goals as goal

pub returns-clause-start : goal.returns-clause-start
returns-clause-start c = law.start_law (points_of c.args.order) (laws_of c.args.order) (divisors_of c.args.order)

pub returns-clause-step : goal.returns-clause-step
returns-clause-step c = law.step_law (points_of c.args.order) (laws_of c.args.order) (divisors_of c.args.order)

pub returns-clause-room : goal.returns-clause-room
returns-clause-room c = law.room_law (points_of c.args.order) (laws_of c.args.order) (divisors_of c.args.order)

pub returns-clause-end : goal.returns-clause-end
returns-clause-end c = law.end_law (points_of c.args.order) (laws_of c.args.order) (divisors_of c.args.order)
