-- The window of a request, in its order.
use Rattle.cyclo_points.specs.declared.order.Order.{Order}
use Rattle.cyclo_points.specs.declared.point.Point.{Point}
use Rattle.cyclo_points.specs.Order.{points_of}
use Rattle.cyclo_points.specs.Point.{quad_of}
use Rattle.cyclo_points.specs.Reduced.{combination}
use Rattle.call_words.specs.Request.{WindowAsked}
use Rattle.plane_geom.specs.declared.window.Window.{Window}
use Rattle.tile_app.specs.DrawnTile.{point_of_number}

-- the point with these coefficients, reduced to the order
abbrev pub reduced : Order → Point → Point
reduced o p = point_of_number o (combination (points_of o) (quad_of p))

-- the window that is asked for, with its centre reduced
abbrev pub window_asked : Order → WindowAsked → Window
window_asked o asked = record { centre = reduced o asked.at; w = asked.half.w; h = asked.half.h }
