-- Where the program's points lie in the plane.
use Rattle.std.specs.Prelude.{List, map}
use Rattle.theory_ring.specs.Sign.{Signed}
use Rattle.theory_plane.specs.Plane.{PlanePoint, TestPoint, test_point}
use Rattle.theory_plane.specs.Triangle.{Triangle, triangle_at}
use Rattle.theory_substitution.specs.Plane.{plane_point}
use Rattle.cyclo_points.specs.declared.order.Order.{Order}
use Rattle.cyclo_points.specs.declared.point.Point.{Point}
use Rattle.cyclo_points.specs.Order.{points_of}
use Rattle.cyclo_points.specs.Point.{point_in}

-- the ordered ring of an order's coordinates
abbrev pub reals_of : Order → Signed
reals_of o = (points_of o).real

abbrev pub PlanePointOf : Order → Type 0
PlanePointOf o = PlanePoint (reals_of o).ops.carrier

abbrev pub TestPointOf : Order → Type 0
TestPointOf o = TestPoint (reals_of o).ops.carrier

-- where a point lies
abbrev pub spot_of : (o : Order) → Point → PlanePointOf o
spot_of o p = plane_point (points_of o) (point_in o p)

-- where each point of a list lies
abbrev pub spots_of : (o : Order) → List Point → List (PlanePointOf o)
spots_of o ps = map (spot_of o) ps

-- the triangle of three points
abbrev pub triangle_of : (o : Order) → List Point → Triangle (PlanePointOf o)
triangle_of o ps = triangle_at (reals_of o).ops (spots_of o ps)

-- a point as a test point
abbrev pub test_of : (o : Order) → Point → TestPointOf o
test_of o p = test_point (reals_of o).ops (spot_of o p)
