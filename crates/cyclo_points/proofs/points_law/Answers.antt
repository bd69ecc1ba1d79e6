use Rattle.cyclo_points.proofs.OrderLaws.{laws_of}
use Rattle.cyclo_points.proofs.points_law.Goals as goal

pub returns : goal.returns
returns c = laws_of c.args.order
