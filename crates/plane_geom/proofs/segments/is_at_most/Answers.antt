use Rattle.std.proofs.Common.{◌+◌, ◌^◌, arith}
use Rattle.cyclo_points.proofs.Within.{real_wider}
use Rattle.plane_geom.proofs.segments.is_at_most.Goals as goal

pub sign-requires : goal.sign-requires
sign-requires c = record {
  r_within = real_wider (2 ^ 27 + 2 ^ 27) (2 ^ 61) c.rsub.result (omega arith)
      (c.rsub.ensures.bounded (2 ^ 27) (2 ^ 27) c.requires.r_within c.requires.s_within);
}
