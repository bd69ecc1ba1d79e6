use Rattle.theory_substitution.proofs.Addresses.{StandsBeside-placement}
use Rattle.cyclo_points.specs.Order.{points_of}
use Rattle.cyclo_points.proofs.OrderLaws.{laws_of}
use Rattle.cyclo_points.proofs.placement_law.Goals as goal

pub returns : goal.returns
returns c = λ r a h. StandsBeside-placement (points_of c.args.order) (laws_of c.args.order) r a h
