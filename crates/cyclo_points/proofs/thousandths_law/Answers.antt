use Rattle.cyclo_points.proofs.Thetas.{thousandths-is_floor}
use Rattle.cyclo_points.proofs.thousandths_law.Goals as goal

pub returns : goal.returns
returns c = thousandths-is_floor c.args.order
