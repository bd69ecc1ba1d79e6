use Rattle.std.proofs.Common.{◌^◌, arith}
use Rattle.cyclo_points.proofs.Within.{point_wider}
use Rattle.dissect_check.proofs.factor.is_real_above_one.Goals as goal

pub is_above_one-requires : goal.is_above_one-requires
is_above_one-requires c = record { within = point_wider 64 (2 ^ 16) c.args.factor.now (omega arith) c.requires.small.within }
