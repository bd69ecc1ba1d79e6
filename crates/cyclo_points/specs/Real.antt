-- What a real number of the program stands for: a number of the ordered ring of each order's coordinates, and
-- the size of its parts.
use Rattle.std.specs.Prelude.{◌≡◌, ℕ, ℤ, pos}
use Rattle.cyclo_points.specs.declared.order.Order.{Order}
use Rattle.cyclo_points.specs.declared.order.Order.TheVariants.{Four, Six, Eight, Ten}
use Rattle.cyclo_points.specs.declared.real.Real.{Real}
use Rattle.cyclo_points.specs.Order.{points_of}
use Rattle.cyclo_points.specs.Point.{Within}

-- a number of the ring in which the coordinates of an order's points lie: Z, Z[√2] or Z[φ]
abbrev pub RealOf : Order → Type 0
RealOf o = (points_of o).real.ops.carrier

-- the number a + bθ of an order; orders four and six have no θ, and read a alone
abbrev pub number : (o : Order) → ℤ → ℤ → RealOf o
number Four a b = a
number Six a b = a
number Eight a b = record { a = a; b = b }
number Ten a b = record { a = a; b = b }

abbrev pub real_in : (o : Order) → Real → RealOf o
real_in o r = number o r.a r.b

-- the real is one of the order: in orders four and six b is 0
abbrev pub IsRealOf : Order → Real → Type 0
IsRealOf Four r = r.b ≡ pos 0
IsRealOf Six r = r.b ≡ pos 0
IsRealOf Eight r = Unit {0}
IsRealOf Ten r = Unit {0}

-- both parts are at most n in absolute value
pub record IsRealWithin (n : ℕ) (r : Real) : Type 0 where
  pub at_a : Within n r.a
  pub at_b : Within n r.b
