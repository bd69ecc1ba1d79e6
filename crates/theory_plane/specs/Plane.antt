-- The plane over a ring with a sign: points by their coordinates X and Y, and the side of an edge on which a
-- point lies.
use Rattle.std.specs.Prelude.{◌≡◌, ℕ, suc, pos}
use Rattle.theory_ring.specs.Ring.{Ops, difference}
use Rattle.theory_ring.specs.Sign.{Signed}

-- a point of the plane
pub record PlanePoint (A : Type 0) : Type 0 where
  pub x : A
  pub y : A

-- the point (x/d, y/d)
pub record TestPoint (A : Type 0) : Type 0 where
  pub x : A
  pub y : A
  pub d : A

-- the denominator of a test point is an integer of at least 1
abbrev pub IsTestPoint : (S : Signed) → TestPoint S.ops.carrier → Type 0
IsTestPoint S p = (n : ℕ) × (p.d ≡ S.ops.int (pos (suc n)))

-- a point as the test point with denominator 1
abbrev pub test_point : (R : Ops) → PlanePoint R.carrier → TestPoint R.carrier
test_point R z = record { x = z.x; y = z.y; d = R.int (pos 1) }

-- (X(b) - X(a)) (y - d Y(a)) - (Y(b) - Y(a)) (x - d X(a)): positive if p is strictly left of the directed
-- edge a→b, negative if it is strictly right
abbrev pub side : (R : Ops) → PlanePoint R.carrier → PlanePoint R.carrier → TestPoint R.carrier → R.carrier
side R a b p =
    difference R (R.mul (difference R b.x a.x) (difference R p.y (R.mul p.d a.y)))
    (R.mul (difference R b.y a.y) (difference R p.x (R.mul p.d a.x)))

-- the orientation of three points: positive if c is strictly left of a→b, so that a, b, c turn left
abbrev pub orientation : (R : Ops) → PlanePoint R.carrier → PlanePoint R.carrier → PlanePoint R.carrier
    → R.carrier
orientation R a b c =
    difference R (R.mul (difference R b.x a.x) (difference R c.y a.y))
    (R.mul (difference R b.y a.y) (difference R c.x a.x))
