use Rattle.cyclo_points.specs.Order.{points_of}
use Rattle.cyclo_points.proofs.OrderLaws.{laws_of}
use Rattle.theory_dissection.proofs.Carried as law
use Rattle.theory_dissection.proofs.Turns.{turns_of}
use Rattle.theory_dissection.proofs.laws.glue_law.Goals as goal

pub returns : goal.returns
returns c = law.glue_law (points_of c.args.order) (laws_of c.args.order) (turns_of c.args.order)
