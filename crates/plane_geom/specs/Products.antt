-- The laws of motions and of products, for the points of each order: what they keep, and what they scale.
use Rattle.std.specs.Prelude.{◌≡◌, ℕ, pos}
use Rattle.theory_ring.specs.Ring.{difference, power}
use Rattle.theory_ring.specs.Sign.{IsPositive}
use Rattle.theory_plane.specs.Plane.{orientation}
use Rattle.theory_substitution.specs.Motion.{Motion, moved}
use Rattle.theory_substitution.specs.Plane.{plane_point, twice_squared_length, Keeps, IsGrowthFactor}
use Rattle.cyclo_points.specs.declared.order.Order.{Order}
use Rattle.cyclo_points.specs.Order.{NumberOf, points_of}
use Rattle.plane_geom.specs.Spots.{reals_of}

-- motions keep left turns, segments and equal lengths
abbrev pub MotionLaw : Order → Type 0
MotionLaw o = (m : Motion (NumberOf o)) → Keeps (points_of o) (moved (points_of o) m)

-- motions keep each length
abbrev pub IsometryLaw : Order → Type 0
IsometryLaw o = (m : Motion (NumberOf o)) (a b : NumberOf o)
    → twice_squared_length (points_of o)
    (difference (points_of o).ring (moved (points_of o) m b) (moved (points_of o) m a))
    ≡ twice_squared_length (points_of o) (difference (points_of o).ring b a)

-- the orientation of three numbers of an order, as points of the plane
abbrev pub orientation_at : (o : Order) → NumberOf o → NumberOf o → NumberOf o → (reals_of o).ops.carrier
orientation_at o a b c =
    orientation (reals_of o).ops (plane_point (points_of o) a) (plane_point (points_of o) b)
    (plane_point (points_of o) c)

-- a product by a number l multiplies each orientation by the squared length of l
abbrev pub OrientationLaw : Order → Type 0
OrientationLaw o = (l a b c : NumberOf o)
    → (reals_of o).ops.mul ((reals_of o).ops.int (pos 2))
    (orientation_at o ((points_of o).ring.mul l a) ((points_of o).ring.mul l b) ((points_of o).ring.mul l c))
    ≡ (reals_of o).ops.mul (twice_squared_length (points_of o) l) (orientation_at o a b c)

-- and each squared length
abbrev pub LengthLaw : Order → Type 0
LengthLaw o = (l z : NumberOf o)
    → (reals_of o).ops.mul ((reals_of o).ops.int (pos 2))
    (twice_squared_length (points_of o) ((points_of o).ring.mul l z))
    ≡ (reals_of o).ops.mul (twice_squared_length (points_of o) l) (twice_squared_length (points_of o) z)

-- so a product by a number of positive squared length keeps left turns, segments and equal lengths
abbrev pub ProductLaw : Order → Type 0
ProductLaw o = (l : NumberOf o) → IsPositive (reals_of o) (twice_squared_length (points_of o) l)
    → Keeps (points_of o) ((points_of o).ring.mul l)

-- a factor of squared length above 1 does, whether it is real or turns the plane
abbrev pub FactorLaw : Order → Type 0
FactorLaw o = (l : NumberOf o) → IsGrowthFactor (points_of o) l
    → Keeps (points_of o) ((points_of o).ring.mul l)

-- and each power of it
abbrev pub FactorPowersLaw : Order → Type 0
FactorPowersLaw o = (l : NumberOf o) → IsGrowthFactor (points_of o) l → (n : ℕ)
    → Keeps (points_of o) ((points_of o).ring.mul (power (points_of o).ring l n))

-- a real number greater than 1 is such a factor: its own conjugate, X being twice it
abbrev pub RealFactorLaw : Order → Type 0
RealFactorLaw o = (l : NumberOf o) → (points_of o).conj l ≡ l
    → IsPositive (reals_of o) (difference (reals_of o).ops ((points_of o).x l) ((reals_of o).ops.int (pos 2)))
    → IsGrowthFactor (points_of o) l
