use Rattle.cyclo_points.specs.Order.{points_of}
use Rattle.cyclo_points.proofs.OrderLaws.{laws_of}
use Rattle.cyclo_points.proofs.Divisors.{divisors_of}
use Rattle.theory_descents.proofs.Carried as law
use Rattle.theory_descents.proofs.laws.descent_law.Goals as goal

pub returns-clause-pruned : goal.returns-clause-pruned
returns-clause-pruned c = law.pruned_law (points_of c.args.order) (laws_of c.args.order) (divisors_of c.args.order)

pub returns-clause-taken : goal.returns-clause-taken
returns-clause-taken c = law.taken_law (points_of c.args.order) (laws_of c.args.order) (divisors_of c.args.order)

pub returns-clause-parts : goal.returns-clause-parts
returns-clause-parts c = law.parts_law (points_of c.args.order) (laws_of c.args.order) (divisors_of c.args.order)

pub returns-clause-whole : goal.returns-clause-whole
returns-clause-whole c = law.descent_law (points_of c.args.order) (laws_of c.args.order) (divisors_of c.args.order)
