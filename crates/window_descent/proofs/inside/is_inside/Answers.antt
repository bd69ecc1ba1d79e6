use Rattle.std.proofs.Common.{◌^◌, ◌+◌, ◌*◌, arith, ◌∙◌, ap₂}
use Rattle.theory_ring.specs.Ring.{difference}
use Rattle.cyclo_points.specs.Order.{points_of}
use Rattle.cyclo_points.specs.Real.{real_in}
use Rattle.cyclo_points.proofs.Within.{point_wider, real_wider}
use Rattle.window_descent.proofs.Insides.{inside-is}
use Rattle.window_descent.proofs.inside.is_inside.Goals as goal

pub x-requires-2 : goal.x-requires-2
x-requires-2 c = record { p_within = point_wider (2 ^ 25) (2 ^ 40) c.args.window.now.centre (omega arith) c.requires.centre_within }

pub is_shorter-requires : goal.is_shorter-requires
is_shorter-requires c = record {
  within = c.rsub-wide.ensures.bounded (4 * 2 ^ 25) (4 * 2 ^ 25) (c.x.ensures.bounded (2 ^ 25) c.requires.p_within)
      (c.x-2.ensures.bounded (2 ^ 25) c.requires.centre_within);
}

pub is_shorter-requires-then-is_shorter : goal.is_shorter-requires-then-is_shorter
is_shorter-requires-then-is_shorter c = record {
  within = real_wider (2 * 2 ^ 25 + 2 * 2 ^ 25) (2 ^ 28) c.rsub-high.result (omega arith)
      (c.rsub-high.ensures.bounded (2 * 2 ^ 25) (2 * 2 ^ 25) (c.y.ensures.bounded (2 ^ 25) c.requires.p_within)
      (c.y-2.ensures.bounded (2 ^ 25) c.requires.centre_within));
}

pub returns-then-is_shorter : goal.returns-then-is_shorter
returns-then-is_shorter c = λ k.
    let o = c.args.order in
    inside-is o c.args.window.now c.args.p.now (real_in o c.rsub-wide.result) (real_in o c.rsub-high.result)
    (c.rsub-wide.ensures.is_difference o ∙ ap₂ (difference (points_of o).real.ops) c.x.ensures.coordinate c.x-2.ensures.coordinate)
    (c.rsub-high.ensures.is_difference o ∙ ap₂ (difference (points_of o).real.ops) c.y.ensures.coordinate c.y-2.ensures.coordinate)
    (c.is_shorter.ensures.below c.if-is_shorter.true) (c.is_shorter.ensures.above c.if-is_shorter.true)
    (c.is_shorter-then-is_shorter.ensures.below k) (c.is_shorter-then-is_shorter.ensures.above k)
