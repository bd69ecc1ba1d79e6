-- Searches for the other halves of tiles.
use Rattle.std.specs.Prelude.{◌<◌, ◌≤◌, ◌^◌, All, length}
use Rattle.rule_model.specs.Tiling.{Tiling, tiling_of}
use Rattle.tile_place.specs.Motions.{IsMotionOf}
use Rattle.tile_place.specs.declared.placed_tile.PlacedTile.{PlacedTile}
use Rattle.theory_windows.specs.Limits.{most_tiles}
use Rattle.window_cover.specs.InOrder.{AreInOrder}
use Rattle.half_glue.specs.declared.tile_search.TileSearch.{TileSearch}
use Rattle.half_glue.specs.declared.window_search.WindowSearch.{WindowSearch}
use Rattle.half_glue.specs.Keys.{AreKeysOf}
use Rattle.half_glue.specs.Sides.{AreSides}

-- the tile's kind exists, and its motion is within the limits
pub record IsTilePlaced (t : Tiling) (x : PlacedTile) : Type 0 where
  pub kind_exists : x.kind < length t.rule.kinds
  pub motion : IsMotionOf t.order (2 ^ 24) x.motion

-- the tiles are those of a window, in order and in their places, and the glue edges are those of the rule
pub record IsWindowSearch (s : WindowSearch) : Type 0 where
  pub few : length s.tiles.now ≤ most_tiles
  pub placed : All (IsTilePlaced (tiling_of s.machine.now)) s.tiles.now
  pub in_order : AreInOrder s.tiles.now
  pub sides : AreSides (tiling_of s.machine.now) s.sides.now

-- the keys are those of the tiles, and the glue edges are those of the rule
pub record IsTileSearch (s : TileSearch) : Type 0 where
  pub keys : AreKeysOf s.tiles.now s.keys.now
  pub sides : AreSides (tiling_of s.machine.now) s.sides.now
