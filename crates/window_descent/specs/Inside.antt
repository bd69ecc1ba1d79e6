-- Points that lie well inside the open box of a window.
use Rattle.std.specs.Prelude.{◌≡◌, true}
use Rattle.theory_plane.specs.BoxTest.{box_test}
use Rattle.cyclo_points.specs.declared.order.Order.{Order}
use Rattle.cyclo_points.specs.declared.point.Point.{Point}
use Rattle.plane_geom.specs.Spots.{PlanePointOf, reals_of, spot_of}
use Rattle.plane_geom.specs.declared.window.Window.{Window}
use Rattle.window_descent.specs.Standing.{window_box}

-- every edge from the point meets the window
abbrev pub IsWellInside : Order → Window → Point → Type 0
IsWellInside o w p = (q : PlanePointOf o)
    → box_test (reals_of o) (spot_of o p) q (window_box o w) ≡ true
