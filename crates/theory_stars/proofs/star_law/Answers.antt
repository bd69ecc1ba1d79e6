use Rattle.cyclo_points.specs.Order.{points_of}
use Rattle.cyclo_points.proofs.OrderLaws.{laws_of}
use Rattle.cyclo_points.proofs.Divisors.{divisors_of}
use Rattle.theory_stars.proofs.Carried as law
use Rattle.theory_stars.proofs.star_law.Goals as goal

pub returns-clause-answers : goal.returns-clause-answers
returns-clause-answers c = law.answer_law (points_of c.args.order) (laws_of c.args.order) (divisors_of c.args.order)

pub returns-clause-onward : goal.returns-clause-onward
returns-clause-onward c = law.onward_law (points_of c.args.order) (laws_of c.args.order)

pub returns-clause-end : goal.returns-clause-end
returns-clause-end c = law.end_law (points_of c.args.order) (laws_of c.args.order)

pub returns-clause-whole : goal.returns-clause-whole
returns-clause-whole c = law.whole_law (points_of c.args.order) (laws_of c.args.order) (divisors_of c.args.order)
