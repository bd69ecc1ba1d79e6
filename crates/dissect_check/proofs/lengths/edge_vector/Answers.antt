use Rattle.std.proofs.Common.{◌+◌, ◌^◌, arith}
use Rattle.cyclo_points.proofs.Within.{point_wider}
use Rattle.dissect_check.proofs.lengths.edge_vector.Goals as goal

pub returns-clause-within : goal.returns-clause-within
returns-clause-within c =
    point_wider (64 + 64) (2 ^ 8) c.sub.result (omega arith)
    (c.sub.ensures.bounded 64 64 c.corner-end.ensures.small.within c.corner-start.ensures.small.within)
