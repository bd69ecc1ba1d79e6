-- The tiles of a window by their places in the order.
use Rattle.std.specs.Prelude.{◌≡◌, ℕ, List, Some, slice_get}
use Rattle.cyclo_points.specs.declared.motion.Motion.{Motion}
use Rattle.tile_place.specs.Keys.{order_numbers}
use Rattle.tile_place.specs.declared.placed_tile.PlacedTile.{PlacedTile}
use Rattle.window_cover.specs.InOrder.{numbers_placed}

-- the tile at this place is of this kind, and has the motion's shift and turn
abbrev pub IsPlacedAt : List PlacedTile → Motion → ℕ → ℕ → Type 0
IsPlacedAt tiles m kind place = (x : PlacedTile) × (slice_get tiles place ≡ Some x)
    × (numbers_placed x ≡ order_numbers m kind)
