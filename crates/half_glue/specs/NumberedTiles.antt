-- Tiles by the numbers that pairs give them.
use Rattle.std.specs.Prelude.{ℕ, ◌<◌, ◌++◌, List, length}
use Rattle.tile_place.specs.declared.placed_tile.PlacedTile.{PlacedTile}
use Rattle.half_glue.specs.declared.numbered_tiles.NumberedTiles.{NumberedTiles}

-- the tiles in the order of their numbers: those of the window, then those crossed to
abbrev pub tiles_in : NumberedTiles → List PlacedTile
tiles_in h = h.tiles.now ++ h.crossed.now

-- the number is that of a tile
abbrev pub HasTile : NumberedTiles → ℕ → Type 0
HasTile h n = n < length (tiles_in h)
