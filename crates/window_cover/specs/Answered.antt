-- What a descent through a frame finds of a window.
use Rattle.std.specs.Prelude.{◌≡◌, ◌≤◌, All, List, [], length, map}
use Rattle.std.specs.List.{AllByRecursion}
use Rattle.theory_addresses.specs.Address.{top_kind}
use Rattle.cyclo_points.specs.Order.{points_of}
use Rattle.theory_frames.specs.Contain.{ancestor_motion}
use Rattle.theory_frames.specs.Frame.{at_level}
use Rattle.plane_geom.specs.declared.window.Window.{Window}
use Rattle.rule_model.specs.Tiling.{Tiling}
use Rattle.tile_place.specs.declared.placed_tile.PlacedTile.{PlacedTile}
use Rattle.tile_place.specs.Searched.{placed_in}
use Rattle.theory_walks.specs.Ancestors.{full}
use Rattle.theory_walks.specs.Frames.{FrameValue}
use Rattle.lazy_walk.specs.Standing.{Stands}
use Rattle.theory_descents.specs.Parts.{drawn_below}
use Rattle.window_cover.specs.Descending.{tiles_in, IsKeptTile}
use Rattle.window_cover.specs.Found.{CoverValue}
use Rattle.window_cover.specs.InOrder.{AreInOrder}
use Rattle.window_cover.specs.Limits.{IsCoverWithinLimits}
use Rattle.window_cover.specs.Windows.{TileOf, box_of, AreDrawn, CoverWindow, IsLeastForWindow}
use Rattle.theory_windows.specs.Limits.{most_tiles}

-- the tiles below the frame's supertile that meet the window
abbrev pub drawn_in : (t : Tiling) → FrameValue → Window → List (TileOf t)
drawn_in t f w =
    drawn_below (points_of t.order) t.rule (box_of t w) (top_kind (at_level (full t f) (length f.digits)))
    (length f.digits) (ancestor_motion (points_of t.order) t.rule (full t f) (length f.digits))

-- these are the tiles found, each within the limits of coordinates, and they are no more than the limit
pub record IsFoundBelow (t : Tiling) (f : FrameValue) (w : Window) (c : CoverValue) : Type 0 where
  pub same_window : c.window ≡ w
  pub none_open : c.border ≡ []
  pub found : tiles_in t.order c.found ≡ drawn_in t f w
  pub kept : AllByRecursion (IsKeptTile t) c.found
  pub few : length c.found ≤ most_tiles

-- all that is promised of a result; the frame was f, and is g
pub record IsAnswered (t : Tiling) (f g : FrameValue) (w : Window) (tiles : List PlacedTile) : Type 0 where
  pub drawn : AreDrawn t g w (map (placed_in t.order) tiles)
  pub stand : All (Stands t g) tiles
  pub in_order : AreInOrder tiles
  pub least : IsLeastForWindow t f w (length g.digits)
  pub covered : CoverWindow t g w (map (placed_in t.order) tiles)
  pub within : IsCoverWithinLimits t f w
