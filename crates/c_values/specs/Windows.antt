-- What the plain points and windows of C stand for.
use Rattle.std.specs.Prelude.{ℕ, ℤ, List, ◌≤◌, ◌^◌}
use Rattle.cyclo_points.specs.declared.order.Order.{Order}
use Rattle.cyclo_points.specs.declared.point.Point.{Point}
use Rattle.cyclo_points.specs.Order.{points_of, coefficients}
use Rattle.cyclo_points.specs.Point.{quad_of, IsWithin}
use Rattle.cyclo_points.specs.Reduced.{combination}
use Rattle.plane_geom.specs.declared.window.Window.{Window}
use Rattle.c_values.specs.declared.plain_window.PlainWindow.{PlainWindow}

-- the point a0 + a1 ζ + a2 ζ² + a3 ζ³ of any four coefficients; orders 4 and 6 reduce it to the first two
abbrev pub point_given : Order → List ℤ → Point
point_given o c = record { c = coefficients o (combination (points_of o) (quad_of (record { c = c }))) }

-- the window that the numbers give in an order
abbrev pub window_in : Order → PlainWindow → Window
window_in o p = record { centre = point_given o p.at; w = p.w; h = p.h }

-- the coefficients that a caller may give are up to 2^20 in absolute value
abbrev pub IsNearby : List ℤ → Type 0
IsNearby c = IsWithin (2 ^ 20) (record { c = c })

-- a half-width or half-height is 1 to 4,096
pub record IsExtent (n : ℕ) : Type 0 where
  pub some : 1 ≤ n
  pub at_most : n ≤ 4096

-- the numbers give a window: its centre has coefficients up to 2^20 in absolute value, and its half-width and
-- half-height are in their range
pub record GivesWindow (p : PlainWindow) : Type 0 where
  pub near : IsWithin (2 ^ 20) (record { c = p.at })
  pub width : IsExtent p.w
  pub height : IsExtent p.h
