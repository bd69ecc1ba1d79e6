-- What a motion stands for, and the order of motions.
use Rattle.std.specs.declared.cmp.Ordering.{Ordering}
use Rattle.std.specs.Ordering.{ordering_then, nat_cmp, int_cmp}
use Rattle.std.specs.Cmp.Lexicographic.{slice_cmp}
use Rattle.theory_substitution.specs.Motion.{Motion as MotionOf}
use Rattle.cyclo_points.specs.declared.order.Order.{Order}
use Rattle.cyclo_points.specs.declared.motion.Motion.{Motion}
use Rattle.cyclo_points.specs.Order.{NumberOf}
use Rattle.cyclo_points.specs.Point.{point_in}

-- the motion z ↦ ζ^turn z + shift of an order's points
abbrev pub motion_in : (o : Order) → Motion → MotionOf (NumberOf o)
motion_in o m = record { turn = m.turn; shift = point_in o m.shift }

-- motions are ordered by their turns; motions of one turn by the coefficients of their shifts, of which the
-- first that differ decide
abbrev pub motion_cmp : Motion → Motion → Ordering
motion_cmp m n = ordering_then (nat_cmp m.turn n.turn) (slice_cmp int_cmp m.shift.c n.shift.c)
