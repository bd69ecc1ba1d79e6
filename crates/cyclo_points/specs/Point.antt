-- What a point stands for: its number in the ring of each order, and the size of its coefficients.
use Rattle.std.specs.Prelude.{◌≡◌, ℕ, ℤ, pos, neg_ℤ, ◌≤ℤ◌, get_or}
use Rattle.theory_ring.specs.Surd.{Pair}
use Rattle.cyclo_points.specs.declared.order.Order.{Order}
use Rattle.cyclo_points.specs.declared.order.Order.TheVariants.{Four, Six, Eight, Ten}
use Rattle.cyclo_points.specs.declared.point.Point.{Point}
use Rattle.cyclo_points.specs.Quad.{Quad}
use Rattle.cyclo_points.specs.Order.{NumberOf}

-- the coefficient of the power ζ^k
abbrev pub coefficient : Point → ℕ → ℤ
coefficient p k = get_or p.c k (pos 0)

abbrev pub quad_of : Point → Quad ℤ
quad_of p = record { a0 = coefficient p 0; a1 = coefficient p 1; a2 = coefficient p 2; a3 = coefficient p 3 }

abbrev pub pair_of : Point → Pair ℤ
pair_of p = record { a = coefficient p 0; b = coefficient p 1 }

-- the number of a point; orders four and six read the first two coefficients
abbrev pub point_in : (o : Order) → Point → NumberOf o
point_in Four p = pair_of p
point_in Six p = pair_of p
point_in Eight p = quad_of p
point_in Ten p = quad_of p

-- the point is one of the order: in orders four and six the last two coefficients are 0
abbrev pub IsOf : Order → Point → Type 0
IsOf Four p = (coefficient p 2 ≡ pos 0) × (coefficient p 3 ≡ pos 0)
IsOf Six p = (coefficient p 2 ≡ pos 0) × (coefficient p 3 ≡ pos 0)
IsOf Eight p = Unit {0}
IsOf Ten p = Unit {0}

-- x is at most n in absolute value
pub record Within (n : ℕ) (x : ℤ) : Type 0 where
  pub low : neg_ℤ (pos n) ≤ℤ x
  pub high : x ≤ℤ pos n

-- each coefficient is at most n in absolute value
pub record IsWithin (n : ℕ) (p : Point) : Type 0 where
  pub at_0 : Within n (coefficient p 0)
  pub at_1 : Within n (coefficient p 1)
  pub at_2 : Within n (coefficient p 2)
  pub at_3 : Within n (coefficient p 3)
