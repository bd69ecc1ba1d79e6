use Rattle.std.proofs.Common.{◌^◌, ◌*◌}
use Rattle.plane_geom.proofs.sides.x_gap.Goals as goal

pub returns-clause-bounded : goal.returns-clause-bounded
returns-clause-bounded c =
    c.rsub.ensures.bounded (4 * 2 ^ 25) (4 * 2 ^ 25) (c.x.ensures.bounded (2 ^ 25) c.requires.b_within)
    (c.x-2.ensures.bounded (2 ^ 25) c.requires.a_within)
