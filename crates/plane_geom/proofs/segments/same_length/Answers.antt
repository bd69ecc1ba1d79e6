use Rattle.std.proofs.Common.{◌+◌, ◌^◌, arith}
use Rattle.cyclo_points.proofs.Within.{real_wider}
use Rattle.plane_geom.proofs.segments.same_length.Goals as goal

pub sign-requires : goal.sign-requires
sign-requires c = record {
  r_within = real_wider (2 ^ 22 + 2 ^ 22) (2 ^ 61) c.rsub.result (omega arith)
      (c.rsub.ensures.bounded (2 ^ 22) (2 ^ 22) c.twice_squared_length-first.ensures.bounded c.twice_squared_length-second.ensures.bounded);
}
