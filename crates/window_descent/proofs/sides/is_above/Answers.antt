use Rattle.std.proofs.Common.{◌^◌, ◌+◌, arith}
use Rattle.cyclo_points.proofs.Within.{real_wider}
use Rattle.window_descent.proofs.sides.is_above.Goals as goal

pub sign-requires : goal.sign-requires
sign-requires c = record {
  r_within = real_wider (2 ^ 16 + 2 ^ 28) (2 ^ 61) c.radd.result (omega arith)
      (c.radd.ensures.bounded (2 ^ 16) (2 ^ 28) c.whole.ensures.within c.requires.within);
}
