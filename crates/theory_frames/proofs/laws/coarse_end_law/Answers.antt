use Rattle.cyclo_points.specs.Order.{points_of}
use Rattle.cyclo_points.proofs.OrderLaws.{laws_of}
use Rattle.theory_frames.proofs.Carried.{some_turn, coarse_end_law}
use Rattle.theory_frames.proofs.laws.coarse_end_law.Goals as goal

pub returns : goal.returns
returns c = coarse_end_law (points_of c.args.order) (laws_of c.args.order) (some_turn c.args.order)
