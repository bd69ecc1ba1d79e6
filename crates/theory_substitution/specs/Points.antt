-- The points of one order n: the ring Z[ζ], ζ = e^(2πi/n), with the coordinates X(z) = 2 Re z and
-- Y(z) = Im z / sin(2π/n) in an ordered ring.
use Rattle.std.specs.Prelude.{◌≡◌, ℕ, pos, Bool, true}
use Rattle.std.specs.declared.cmp.Ordering.TheVariants.{Greater}
use Rattle.theory_ring.specs.Ring.{Ops, Laws, difference, power}
use Rattle.theory_ring.specs.Sign.{Signed, OrderLaws}

-- the ring of points, the ordered ring of coordinates, n, ζ, the complex conjugate, X, Y, and whether two
-- points are one
pub record Points : Type 1 where
  pub ring : Ops
  pub real : Signed
  pub order : ℕ
  pub zeta : ring.carrier
  pub conj : ring.carrier → ring.carrier
  pub x : ring.carrier → real.ops.carrier
  pub y : ring.carrier → real.ops.carrier
  pub same : ring.carrier → ring.carrier → Bool

-- All that a proof uses of the points. `cosine` is 2 cos(2π/n), written t below. X and Y add, and multiply as
-- the coordinates of complex numbers do: 2 X(l z) is X(l) X(z) - (4 - t²) Y(l) Y(z), and
-- 2 Y(l z) is X(l) Y(z) + Y(l) X(z). ζ has the coordinates t and 1, and ζ^n is 1. The conjugate keeps X and
-- changes the sign of Y. X and Y determine a point.
pub record PointLaws (P : Points) : Type 0 where
  pub of_ring : Laws P.ring
  pub of_real : Laws P.real.ops
  pub of_order : OrderLaws P.real
  pub cosine : P.real.ops.carrier
  pub cosine_below : P.real.sign
      (difference P.real.ops (P.real.ops.int (pos 4)) (P.real.ops.mul cosine cosine)) ≡ Greater
  pub x-add : (a b : P.ring.carrier) → P.x (P.ring.add a b) ≡ P.real.ops.add (P.x a) (P.x b)
  pub y-add : (a b : P.ring.carrier) → P.y (P.ring.add a b) ≡ P.real.ops.add (P.y a) (P.y b)
  pub x-mul : (l z : P.ring.carrier) → P.real.ops.mul (P.real.ops.int (pos 2)) (P.x (P.ring.mul l z))
      ≡ difference P.real.ops (P.real.ops.mul (P.x l) (P.x z))
      (P.real.ops.mul (difference P.real.ops (P.real.ops.int (pos 4)) (P.real.ops.mul cosine cosine))
      (P.real.ops.mul (P.y l) (P.y z)))
  pub y-mul : (l z : P.ring.carrier)
      → P.real.ops.mul (P.real.ops.int (pos 2)) (P.y (P.ring.mul l z))
      ≡ P.real.ops.add (P.real.ops.mul (P.x l) (P.y z)) (P.real.ops.mul (P.y l) (P.x z))
  pub x-zeta : P.x P.zeta ≡ cosine
  pub y-zeta : P.y P.zeta ≡ P.real.ops.int (pos 1)
  pub x-conj : (z : P.ring.carrier) → P.x (P.conj z) ≡ P.x z
  pub y-conj : (z : P.ring.carrier) → P.y (P.conj z) ≡ P.real.ops.neg (P.y z)
  pub round : power P.ring P.zeta P.order ≡ P.ring.int (pos 1)
  pub separate : (a b : P.ring.carrier) → P.x a ≡ P.x b → P.y a ≡ P.y b → a ≡ b
  pub same-is : (a b : P.ring.carrier) → P.same a b ≡ true → a ≡ b
  pub same_self : (a : P.ring.carrier) → P.same a a ≡ true
