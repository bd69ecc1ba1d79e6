-- Which points a rule may have.
use Rattle.std.specs.Prelude.{ℕ, pos, Bool, true, not, ◌&&◌, ◌||◌, nat_lt, nat_abs}
use Rattle.std.specs.Ordering.{int_eq}
use Rattle.cyclo_points.specs.declared.order.Order.{Order}
use Rattle.cyclo_points.specs.declared.order.Order.TheVariants.{Four, Six, Eight, Ten}
use Rattle.cyclo_points.specs.declared.point.Point.{Point}
use Rattle.cyclo_points.specs.Point.{coefficient}

-- a coefficient is above n in absolute value
abbrev pub is_above : ℕ → Point → Bool
is_above n p =
    nat_lt n (nat_abs (coefficient p 0)) || nat_lt n (nat_abs (coefficient p 1))
    || nat_lt n (nat_abs (coefficient p 2)) || nat_lt n (nat_abs (coefficient p 3))

-- in orders four and six the last two coefficients are 0
abbrev pub is_of : Order → Point → Bool
is_of Four p = int_eq (coefficient p 2) (pos 0) && int_eq (coefficient p 3) (pos 0)
is_of Six p = int_eq (coefficient p 2) (pos 0) && int_eq (coefficient p 3) (pos 0)
is_of Eight p = true
is_of Ten p = true

-- a point of the order whose coefficients are at most 64 in absolute value
abbrev pub is_small : Order → Point → Bool
is_small o p = not (is_above 64 p) && is_of o p
