-- Motions of the program, within a bound.
use Rattle.std.specs.Prelude.{ℕ, ◌<◌}
use Rattle.cyclo_points.specs.declared.order.Order.{Order}
use Rattle.cyclo_points.specs.declared.motion.Motion.{Motion}
use Rattle.cyclo_points.specs.Order.{points_of}
use Rattle.cyclo_points.specs.Point.{IsOf, IsWithin}

-- a motion of an order: a turn below the order, and a shift of that order whose coefficients are at most this
pub record IsMotionOf (o : Order) (most : ℕ) (m : Motion) : Type 0 where
  pub turn_below : m.turn < (points_of o).order
  pub within : IsWithin most m.shift
  pub in_order : IsOf o m.shift
