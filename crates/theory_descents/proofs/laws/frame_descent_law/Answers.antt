use Rattle.cyclo_points.specs.Order.{points_of}
use Rattle.cyclo_points.proofs.OrderLaws.{laws_of}
use Rattle.cyclo_points.proofs.Divisors.{divisors_of}
use Rattle.theory_descents.proofs.Carried as law
use Rattle.theory_descents.proofs.laws.frame_descent_law.Goals as goal

pub returns-clause-below : goal.returns-clause-below
returns-clause-below c = law.below_law (points_of c.args.order) (laws_of c.args.order) (divisors_of c.args.order)

pub returns-clause-drawn : goal.returns-clause-drawn
returns-clause-drawn c = law.drawn_law (points_of c.args.order) (laws_of c.args.order) (divisors_of c.args.order)

pub returns-clause-holds : goal.returns-clause-holds
returns-clause-holds c = law.holds_law (points_of c.args.order) (laws_of c.args.order) (divisors_of c.args.order)

pub returns-clause-climb : goal.returns-clause-climb
returns-clause-climb c = law.climb_law (points_of c.args.order) (laws_of c.args.order) (divisors_of c.args.order)

pub returns-clause-covers : goal.returns-clause-covers
returns-clause-covers c = law.covers_law (points_of c.args.order) (laws_of c.args.order) (divisors_of c.args.order)
