-- Points that are near enough for tests of the plane.
use Rattle.std.specs.Prelude.{◌^◌, ◌<◌, All, List}
use Rattle.cyclo_points.specs.declared.point.Point.{Point}
use Rattle.cyclo_points.specs.Point.{IsWithin}
use Rattle.plane_geom.specs.declared.window.Window.{Window}

-- the centre of the window is
abbrev pub IsInReach : Window → Type 0
IsInReach w = IsWithin (2 ^ 25) w.centre

-- each of these corners is
abbrev pub AreInReach : List Point → Type 0
AreInReach corners = All (IsWithin (2 ^ 25)) corners

-- it is, and the window has a width and a height
pub record HasArea (w : Window) : Type 0 where
  pub centre_within : IsInReach w
  pub some_width : 0 < w.w
  pub some_height : 0 < w.h
