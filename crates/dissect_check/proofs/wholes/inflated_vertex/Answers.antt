use Rattle.std.proofs.Common.{◌*◌, ◌^◌, arith}
use Rattle.cyclo_points.proofs.Within.{point_wider}
use Rattle.dissect_check.proofs.wholes.inflated_vertex.Goals as goal

pub returns-clause-within : goal.returns-clause-within
returns-clause-within c =
    point_wider (8 * 64 * 64) (2 ^ 16) c.mul.result (omega arith)
    (c.mul.ensures.bounded 64 64 c.corner.ensures.small.within c.requires.usable.factor_small.within)
