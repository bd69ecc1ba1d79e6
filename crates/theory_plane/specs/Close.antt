-- Test points close to an edge.
use Rattle.std.specs.Prelude.{◌≡◌, ℕ, pos, ◌<◌, Bool, ◌&&◌, IsTrue}
use Rattle.std.specs.Ordering.{is_lt}
use Rattle.theory_ring.specs.Ring.{difference}
use Rattle.theory_ring.specs.Sign.{Signed}
use Rattle.theory_plane.specs.Plane.{PlanePoint, TestPoint, IsTestPoint, side}
use Rattle.theory_plane.specs.Box.{is_shorter}

-- p is strictly right of the directed edge a→b
abbrev pub is_right_of_edge : (S : Signed) → PlanePoint S.ops.carrier → PlanePoint S.ops.carrier
    → TestPoint S.ops.carrier → Bool
is_right_of_edge S a b p = is_lt (S.sign (side S.ops a b p))

-- whether the coordinate x/d differs from the middle (r + s)/2 by less than 1/n, without fractions:
-- n |2x - d(r + s)| < 2d
abbrev pub is_near : (S : Signed) → ℕ → S.ops.carrier → S.ops.carrier → S.ops.carrier → S.ops.carrier → Bool
is_near S n r s x d =
    is_shorter S
    (S.ops.mul (S.ops.int (pos n))
    (difference S.ops (S.ops.mul (S.ops.int (pos 2)) x) (S.ops.mul d (S.ops.add r s))))
    (S.ops.mul (S.ops.int (pos 2)) d)

-- whether X and Y of p each differ from those of the middle of a and b by less than 1/n
abbrev pub is_near_middle : (S : Signed) → ℕ → PlanePoint S.ops.carrier → PlanePoint S.ops.carrier
    → TestPoint S.ops.carrier → Bool
is_near_middle S n a b p = is_near S n a.x b.x p.x p.d && is_near S n a.y b.y p.y p.d

-- some test point strictly right of a→b is as close to the edge's middle
abbrev pub HasPointRight : (S : Signed) → PlanePoint S.ops.carrier → PlanePoint S.ops.carrier → ℕ → Type 0
HasPointRight S a b n = (p : TestPoint S.ops.carrier) × IsTestPoint S p × IsTrue (is_right_of_edge S a b p)
    × IsTrue (is_near_middle S n a b p)

-- every edge with two different ends has such test points, arbitrarily close
abbrev pub PointsRight : Signed → Type 0
PointsRight S = (a b : PlanePoint S.ops.carrier) → (¬ a ≡ b) → (n : ℕ) → 0 < n → HasPointRight S a b n
