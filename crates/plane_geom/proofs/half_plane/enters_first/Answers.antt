use Rattle.std.proofs.Common.{◌^◌, ◌*◌, ◌+◌, arith}
use Rattle.cyclo_points.proofs.Within.{real_wider}
use Rattle.plane_geom.proofs.half_plane.enters_first.Goals as goal

pub rsub-difference-requires-clause-r_within : goal.rsub-difference-requires-clause-r_within
rsub-difference-requires-clause-r_within c =
    real_wider (3 * 2 ^ 29 * 2 ^ 29) (2 ^ 100) c.rmul-outer.result (omega arith)
    (c.rmul-outer.ensures.bounded (2 ^ 29) (2 ^ 29) c.requires.f_measured.start_within
    c.requires.g_measured.end_within)

pub rsub-difference-requires-clause-s_within : goal.rsub-difference-requires-clause-s_within
rsub-difference-requires-clause-s_within c =
    real_wider (3 * 2 ^ 29 * 2 ^ 29) (2 ^ 100) c.rmul-inner.result (omega arith)
    (c.rmul-inner.ensures.bounded (2 ^ 29) (2 ^ 29) c.requires.g_measured.start_within
    c.requires.f_measured.end_within)

pub is_positive-requires : goal.is_positive-requires
is_positive-requires c = record {
  within = real_wider (3 * 2 ^ 29 * 2 ^ 29 + 3 * 2 ^ 29 * 2 ^ 29) (2 ^ 61) c.rsub-difference.result (omega arith)
      (c.rsub-difference.ensures.bounded (3 * 2 ^ 29 * 2 ^ 29) (3 * 2 ^ 29 * 2 ^ 29)
      (c.rmul-outer.ensures.bounded (2 ^ 29) (2 ^ 29) c.requires.f_measured.start_within c.requires.g_measured.end_within)
      (c.rmul-inner.ensures.bounded (2 ^ 29) (2 ^ 29) c.requires.g_measured.start_within c.requires.f_measured.end_within));
}
