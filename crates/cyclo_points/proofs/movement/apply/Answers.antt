use Rattle.std.proofs.Common.{◌^◌, arith}
use Rattle.cyclo_points.proofs.Within.{point_wider}
use Rattle.cyclo_points.proofs.movement.apply.Goals as goal

pub add-requires-clause-q_within : goal.add-requires-clause-q_within
add-requires-clause-q_within c = point_wider (2 ^ 38) (2 ^ 40) c.args.m.now.shift (omega arith) c.requires.shift_within
