-- Whole tiles in the place of their halves: when they can be drawn.
use Rattle.std.specs.Prelude.{◌≡◌, Bool, true, List, map, length, All}
use Rattle.half_glue.specs.Limits.{CanBeGlued}
use Rattle.theory_walks.specs.Frames.{FrameValue, GrowsTo}
use Rattle.lazy_walk.specs.Standing.{Stands}
use Rattle.plane_geom.specs.declared.window.Window.{Window}
use Rattle.rule_model.specs.Tiling.{Tiling}
use Rattle.tile_place.specs.declared.placed_tile.PlacedTile.{PlacedTile}
use Rattle.tile_place.specs.Searched.{placed_in}
use Rattle.window_cover.specs.Limits.{IsCoverWithinLimits}
use Rattle.window_cover.specs.Windows.{AreDrawn, IsLeastForWindow}

-- The tiles of the window, at the least depth that is enough for it, can all be glued: at depth 64 no glue
-- edge of theirs is on the boundary, and the tile across none of these edges has a refused shift.
abbrev pub CanBeGluedInWindow : Tiling → FrameValue → Window → Type 0
CanBeGluedInWindow t f w =
    (g : FrameValue) (tiles : List PlacedTile) → GrowsTo t f g → IsLeastForWindow t f w (length g.digits)
    → All (Stands t g) tiles → AreDrawn t g w (map (placed_in t.order) tiles)
    → CanBeGlued t g tiles

-- the window is within the limits of the frame; and where whole tiles are asked for, its tiles can be glued
pub record IsWithinTheirLimits (glue : Bool) (t : Tiling) (f : FrameValue) (w : Window) : Type 0 where
  pub within : IsCoverWithinLimits t f w
  pub can_be_glued : glue ≡ true → CanBeGluedInWindow t f w
