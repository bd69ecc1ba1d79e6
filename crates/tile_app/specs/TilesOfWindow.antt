-- The tiles of a window.
use Rattle.std.specs.Prelude.{List, map, length, All}
use Rattle.theory_walks.specs.Frames.{FrameValue, GrowsTo}
use Rattle.lazy_walk.specs.Standing.{Stands}
use Rattle.plane_geom.specs.declared.window.Window.{Window}
use Rattle.rule_model.specs.Tiling.{Tiling}
use Rattle.tile_place.specs.declared.placed_tile.PlacedTile.{PlacedTile}
use Rattle.tile_place.specs.Searched.{placed_in}
use Rattle.window_cover.specs.InOrder.{AreInOrder}
use Rattle.window_cover.specs.Windows.{AreDrawn, CoverWindow, IsLeastForWindow}

-- The frame has grown from `start` to the least depth that is enough for the window: it holds the window's
-- centre, and no edge of its supertile's polygon meets the window. The tiles are exactly those of the frame
-- that meet the window, each once, by their motions in the base's frame, and in order. They are disjoint and
-- cover the window: each test point in it belongs to exactly one of them.
pub record TilesOfWindow (t : Tiling) (start : FrameValue) (window : Window) (frame : FrameValue)
    (tiles : List PlacedTile) : Type 0 where
  pub grown : GrowsTo t start frame
  pub least : IsLeastForWindow t start window (length frame.digits)
  pub stand : All (Stands t frame) tiles
  pub drawn : AreDrawn t frame window (map (placed_in t.order) tiles)
  pub in_order : AreInOrder tiles
  pub covered : CoverWindow t frame window (map (placed_in t.order) tiles)
