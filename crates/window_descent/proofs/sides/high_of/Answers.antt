use Rattle.std.proofs.Common.{◌^◌, ◌+◌, ◌*◌, arith, ◌∙◌, ap₂}
use Rattle.theory_ring.specs.Ring.{difference}
use Rattle.cyclo_points.proofs.Within.{point_wider, real_wider}
use Rattle.plane_geom.specs.Spots.{reals_of}
use Rattle.window_descent.proofs.sides.high_of.Goals as goal

pub y-requires-2 : goal.y-requires-2
y-requires-2 c = record { p_within = point_wider (2 ^ 25) (2 ^ 40) c.args.window.now.centre (omega arith) c.requires.centre_within }

pub returns-clause-value : goal.returns-clause-value
returns-clause-value c = c.rsub.ensures.is_difference c.args.order ∙ ap₂ (difference
    (reals_of c.args.order).ops) c.y.ensures.coordinate c.y-2.ensures.coordinate

pub returns-clause-within : goal.returns-clause-within
returns-clause-within c =
    real_wider (2 * 2 ^ 25 + 2 * 2 ^ 25) (2 ^ 28) c.rsub.result (omega arith)
    (c.rsub.ensures.bounded (2 * 2 ^ 25) (2 * 2 ^ 25) (c.y.ensures.bounded (2 ^ 25) c.requires.p_within)
    (c.y-2.ensures.bounded (2 ^ 25) c.requires.centre_within))
