use Rattle.std.proofs.Common.{◌^◌, ◌*◌, arith}
use Rattle.cyclo_points.proofs.Within.{real_wider}
use Rattle.plane_geom.proofs.sides.y_gap.Goals as goal

pub returns-clause-bounded : goal.returns-clause-bounded
returns-clause-bounded c =
    real_wider (2 ^ 27) (2 ^ 28) c.rsub.result (omega arith)
    (c.rsub.ensures.bounded (2 * 2 ^ 25) (2 * 2 ^ 25) (c.y.ensures.bounded (2 ^ 25) c.requires.b_within)
    (c.y-2.ensures.bounded (2 ^ 25) c.requires.a_within))
