-- How the polygon with these corners lies to a window.
use Rattle.std.specs.Prelude.{List}
use Rattle.theory_plane.specs.Box.{OpenBox}
use Rattle.theory_substitution.specs.Plane.{box_at}
use Rattle.cyclo_points.specs.declared.order.Order.{Order}
use Rattle.cyclo_points.specs.declared.point.Point.{Point}
use Rattle.cyclo_points.specs.Order.{points_of}
use Rattle.cyclo_points.specs.Point.{point_in}
use Rattle.plane_geom.specs.declared.window.Window.{Window}
use Rattle.plane_geom.specs.Spots.{reals_of, spots_of}
use Rattle.theory_descents.specs.Insets.{IsBeyondBox, IsWithinBox}
use Rattle.window_descent.specs.declared.standing.Standing.{Standing}
use Rattle.window_descent.specs.declared.standing.Standing.TheVariants.{Beyond, Within, Across}

-- the open box around the window's centre
abbrev pub window_box : (o : Order) → Window → OpenBox (points_of o).real.ops.carrier
window_box o w = box_at (points_of o) (point_in o w.centre) w.w w.h

abbrev pub IsStanding : Order → Window → List Point → Standing → Type 0
IsStanding o w corners Beyond = IsBeyondBox (reals_of o) (window_box o w) (spots_of o corners)
IsStanding o w corners Within = IsWithinBox (reals_of o) (window_box o w) (spots_of o corners)
IsStanding o w corners Across = Unit {0}
