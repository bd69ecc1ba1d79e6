use Rattle.std.proofs.Common.{◌^◌, ◌+◌, arith}
use Rattle.cyclo_points.proofs.Within.{real_wider}
use Rattle.plane_geom.proofs.half_plane.above.Goals as goal

pub measure-requires-clause-start_within : goal.measure-requires-clause-start_within
measure-requires-clause-start_within c =
    real_wider (2 ^ 16 + 2 ^ 28) (2 ^ 29) c.radd.result (omega arith)
    (c.radd.ensures.bounded (2 ^ 16) (2 ^ 28) c.whole-extent.ensures.within c.requires.start_within)

pub measure-requires-clause-end_within : goal.measure-requires-clause-end_within
measure-requires-clause-end_within c =
    real_wider (2 ^ 16 + 2 ^ 28) (2 ^ 29) c.radd-2.result (omega arith)
    (c.radd-2.ensures.bounded (2 ^ 16) (2 ^ 28) c.whole-extent.ensures.within c.requires.end_within)
