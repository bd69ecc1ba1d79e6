use Rattle.cyclo_points.specs.Order.{points_of}
use Rattle.cyclo_points.proofs.OrderLaws.{laws_of}
use Rattle.theory_frames.proofs.Carried.{some_turn, found_tile_law}
use Rattle.theory_frames.proofs.laws.found_tile_law.Goals as goal

pub returns : goal.returns
returns c = found_tile_law (points_of c.args.order) (laws_of c.args.order) (some_turn c.args.order)
