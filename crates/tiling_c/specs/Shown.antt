-- Tiles of the engine as plain numbers.
use Rattle.theory_addresses.specs.Address as theory
use Rattle.tile_place.specs.declared.placed_tile.PlacedTile.{PlacedTile}
use Rattle.tile_shape.specs.Views.{address_of}
use Rattle.c_values.specs.declared.plain_tile.PlainTile.{PlainTile}
use Rattle.c_values.specs.Tiles.{tile_as}

-- a tile at its place, as plain numbers, and its address
abbrev pub tile_shown : PlacedTile → PlainTile
tile_shown x = tile_as x.kind x.motion 0

abbrev pub address_shown : PlacedTile → theory.Address
address_shown x = address_of x.addr
