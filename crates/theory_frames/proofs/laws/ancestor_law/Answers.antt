use Rattle.cyclo_points.specs.Order.{points_of}
use Rattle.cyclo_points.proofs.OrderLaws.{laws_of}
use Rattle.theory_frames.proofs.Carried.{some_turn, ancestor_law}
use Rattle.theory_frames.proofs.laws.ancestor_law.Goals as goal

pub returns : goal.returns
returns c = ancestor_law (points_of c.args.order) (laws_of c.args.order) (some_turn c.args.order)
