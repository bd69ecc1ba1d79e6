-- Windows on the frame of a base tile, and the tiles of the frame that meet them.
use Rattle.std.specs.Prelude.{ℕ, ◌≤◌, ◌^◌, List, length}
use Rattle.theory_plane.specs.Box.{OpenBox}
use Rattle.theory_addresses.specs.Search.{IsAmong}
use Rattle.theory_substitution.specs.Supertile.{Placed}
use Rattle.cyclo_points.specs.Order.{NumberOf, points_of}
use Rattle.cyclo_points.specs.Point.{IsWithin}
use Rattle.theory_dissection.specs.Polygons.{tile_polygon}
use Rattle.theory_frames.specs.Frame.{frame_tiles}
use Rattle.plane_geom.specs.declared.window.Window.{Window}
use Rattle.rule_model.specs.Tiling.{Tiling}
use Rattle.theory_walks.specs.Ancestors.{full}
use Rattle.theory_walks.specs.Frames.{FrameValue, whole}
use Rattle.theory_windows.specs.FramePatch.{frame_patch}
use Rattle.theory_windows.specs.FrameWindow.{AreAllThatMeet, IsLeastDepth}
use Rattle.theory_windows.specs.Outlines.{Polygon}
use Rattle.theory_windows.specs.Meeting.{PolygonMeetsBox}
use Rattle.theory_windows.specs.Patch.{Covers}
pub use Rattle.window_descent.specs.Standing.{window_box}

-- the half-width and the half-height are 1 to 4,096, and the centre's coefficients at most 2^22
pub record IsWindow (w : Window) : Type 0 where
  pub some_width : 1 ≤ w.w
  pub some_height : 1 ≤ w.h
  pub width_fits : w.w ≤ 4096
  pub height_fits : w.h ≤ 4096
  pub centre_within : IsWithin (2 ^ 22) w.centre

abbrev pub box_of : (t : Tiling) → Window → OpenBox (points_of t.order).real.ops.carrier
box_of t w = window_box t.order w

-- a tile, by its address and its motion
abbrev pub TileOf : Tiling → Type 0
TileOf t = Placed (NumberOf t.order)

-- the polygon of a tile in its place
abbrev pub polygon_of : (t : Tiling) → TileOf t → Polygon (points_of t.order).real
polygon_of t x = tile_polygon (points_of t.order) t.rule (λ z. z) x

-- some test point in the window belongs to the tile
abbrev pub MeetsWindow : (t : Tiling) → Window → TileOf t → Type 0
MeetsWindow t w x = PolygonMeetsBox (points_of t.order).real (box_of t w) (polygon_of t x)

-- the tile is one of the frame's, at the frame's own depth
abbrev pub IsOfFrame : (t : Tiling) → FrameValue → TileOf t → Type 0
IsOfFrame t f x = IsAmong x (frame_tiles (points_of t.order) t.rule (whole f))

-- these are the tiles of the frame, at its own depth, that meet the window, each exactly once
abbrev pub AreDrawn : (t : Tiling) → FrameValue → Window → List (TileOf t) → Type 0
AreDrawn t f w tiles =
    AreAllThatMeet (points_of t.order).real (TileOf t) (frame_patch (points_of t.order) t.rule (whole f))
    (box_of t w) tiles

-- each test point in the window belongs to exactly one of these tiles of the frame
abbrev pub CoverWindow : (t : Tiling) → FrameValue → Window → List (TileOf t) → Type 0
CoverWindow t f w tiles =
    Covers (points_of t.order).real (TileOf t) (frame_patch (points_of t.order) t.rule (whole f)) (box_of t w)
    tiles

-- n is the least depth, from that of the frame to 64, that is enough: the frame's polygon there holds the
-- centre, and none of its edges meets the window
abbrev pub IsLeastForWindow : (t : Tiling) → FrameValue → Window → ℕ → Type 0
IsLeastForWindow t f w n = IsLeastDepth (points_of t.order) t.rule (full t f) (box_of t w) (length f.digits) n
