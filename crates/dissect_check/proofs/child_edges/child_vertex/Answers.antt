use Rattle.std.proofs.Common.{◌+◌, ◌*◌, ◌^◌, arith}
use Rattle.cyclo_points.proofs.Within.{point_wider}
use Rattle.dissect_check.proofs.child_edges.child_vertex.Goals as goal

pub returns-clause-within : goal.returns-clause-within
returns-clause-within c =
    point_wider (2 * 64 + 64) (2 ^ 16) c.apply.result (omega arith)
    (c.apply.ensures.bounded 64 64 c.corner.ensures.small.within c.tile-tile.ensures.small.within)
