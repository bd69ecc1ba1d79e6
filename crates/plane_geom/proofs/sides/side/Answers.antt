use Rattle.std.proofs.Common.{◌+◌, ◌^◌, ◌*◌, arith}
use Rattle.cyclo_points.proofs.Within.{real_wider}
use Rattle.plane_geom.proofs.sides.side.Goals as goal

pub rsub-requires-clause-r_within : goal.rsub-requires-clause-r_within
rsub-requires-clause-r_within c =
    real_wider (3 * 2 ^ 28 * 2 ^ 28) (2 ^ 100) c.rmul-left.result (omega arith)
    (c.rmul-left.ensures.bounded (2 ^ 28) (2 ^ 28) c.x_gap.ensures.bounded c.y_gap.ensures.bounded)

pub rsub-requires-clause-s_within : goal.rsub-requires-clause-s_within
rsub-requires-clause-s_within c =
    real_wider (3 * 2 ^ 28 * 2 ^ 28) (2 ^ 100) c.rmul-right.result (omega arith)
    (c.rmul-right.ensures.bounded (2 ^ 28) (2 ^ 28) c.y_gap-2.ensures.bounded c.x_gap-2.ensures.bounded)

pub sign-requires : goal.sign-requires
sign-requires c = record {
  r_within = real_wider (3 * 2 ^ 28 * 2 ^ 28 + 3 * 2 ^ 28 * 2 ^ 28) (2 ^ 61) c.rsub.result (omega arith)
      (c.rsub.ensures.bounded (3 * 2 ^ 28 * 2 ^ 28) (3 * 2 ^ 28 * 2 ^ 28)
      (c.rmul-left.ensures.bounded (2 ^ 28) (2 ^ 28) c.x_gap.ensures.bounded c.y_gap.ensures.bounded)
      (c.rmul-right.ensures.bounded (2 ^ 28) (2 ^ 28) c.y_gap-2.ensures.bounded c.x_gap-2.ensures.bounded));
}
