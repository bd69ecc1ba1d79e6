use Rattle.std.proofs.Common.{◌*◌, ◌^◌, arith}
use Rattle.cyclo_points.proofs.Within.{point_wider}
use Rattle.plane_geom.proofs.segments.twice_squared_length.Goals as goal

pub x-requires : goal.x-requires
x-requires c = record {
  p_within = point_wider (8 * 2 ^ 8 * (2 * 2 ^ 8)) (2 ^ 40) c.mul.result (omega arith)
      (c.mul.ensures.bounded (2 ^ 8) (2 * 2 ^ 8) c.requires (c.conj.ensures.at_most_doubled (2 ^ 8) c.requires));
}

pub returns-clause-bounded : goal.returns-clause-bounded
returns-clause-bounded c = c.x.ensures.bounded (8 * 2 ^ 8 * (2 * 2 ^ 8))
    (c.mul.ensures.bounded (2 ^ 8) (2 * 2 ^ 8) c.requires (c.conj.ensures.at_most_doubled (2 ^ 8) c.requires))
