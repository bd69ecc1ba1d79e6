-- The laws of crossings, fans, triangles and segments, for the points of each order.
use Rattle.std.specs.Prelude.{◌≡◌, ◌↔◌, ◌⊎◌, pos, neg_ℤ, ◌+ℤ◌, List, IsTrue}
use Rattle.cyclo_points.specs.declared.order.Order.{Order}
use Rattle.plane_geom.specs.Spots.{reals_of, PlanePointOf, TestPointOf}
use Rattle.theory_plane.specs.Plane.{IsTestPoint}
use Rattle.theory_plane.specs.Crossing.{crossing, count, member}
use Rattle.theory_plane.specs.Triangle.{Triangle, corners, fan, counts, turns_left, separated}
use Rattle.theory_plane.specs.Segment.{on_segment, Between}

-- an edge traversed backwards crosses the other way
abbrev pub AntisymmetryLaw : Order → Type 0
AntisymmetryLaw o = (a b : PlanePointOf o) (p : TestPointOf o)
    → crossing (reals_of o) b a p ≡ neg_ℤ (crossing (reals_of o) a b p)

-- an edge that is cut at a point of it crosses as its two parts together
abbrev pub AdditivityLaw : Order → Type 0
AdditivityLaw o =
    (a b c : PlanePointOf o) (p : TestPointOf o) → IsTrue (on_segment (reals_of o) a b c)
    → crossing (reals_of o) a b p ≡ crossing (reals_of o) a c p +ℤ crossing (reals_of o) c b p

-- a polygon's count is the sum over its fan
abbrev pub FanLaw : Order → Type 0
FanLaw o = (vs : List (PlanePointOf o)) (p : TestPointOf o)
    → count (reals_of o) vs p ≡ counts (reals_of o) (fan vs) p

-- a triangle that turns left counts 0 or 1 at each test point
abbrev pub TriangleLaw : Order → Type 0
TriangleLaw o =
    (t : Triangle (PlanePointOf o)) (p : TestPointOf o) → IsTestPoint (reals_of o) p
    → IsTrue (turns_left (reals_of o) t)
    → (count (reals_of o) (corners t) p ≡ pos 0) ⊎ (count (reals_of o) (corners t) p ≡ pos 1)

-- no test point belongs to both of two separated triangles that turn left
abbrev pub SeparationLaw : Order → Type 0
SeparationLaw o =
    (t u : Triangle (PlanePointOf o)) (p : TestPointOf o) → IsTestPoint (reals_of o) p
    → IsTrue (turns_left (reals_of o) t) → IsTrue (turns_left (reals_of o) u)
    → IsTrue (separated (reals_of o) t u) → IsTrue (member (reals_of o) (corners t) p)
    → ¬ IsTrue (member (reals_of o) (corners u) p)

-- a point is on a closed segment if and only if it is a mean of the ends
abbrev pub SegmentLaw : Order → Type 0
SegmentLaw o = (a b p : PlanePointOf o) → IsTrue (on_segment (reals_of o) a b p) ↔ Between (reals_of o) a b p
