-- The items of a caller's arrays.
use Rattle.std.specs.Prelude.{ℕ, List, [], get_or}
use Rattle.c_values.specs.declared.plain_address.PlainAddress.{PlainAddress}
use Rattle.c_values.specs.declared.plain_crossing.PlainCrossing.{PlainCrossing}
use Rattle.c_values.specs.declared.plain_tile.PlainTile.{PlainTile}
use Rattle.c_values.specs.Tiles.{refused_as}

-- what stands for no address
abbrev pub no_address : PlainAddress
no_address = record { kind = 0; depth = 0; digits = [] }

-- the tile at index i of an array, the address, and the crossing
abbrev pub plain_tile_at : List PlainTile → ℕ → PlainTile
plain_tile_at tiles i = get_or tiles i (refused_as 0)

abbrev pub plain_address_at : List PlainAddress → ℕ → PlainAddress
plain_address_at addrs i = get_or addrs i no_address

abbrev pub crossing_at : List PlainCrossing → ℕ → PlainCrossing
crossing_at crossings i = get_or crossings i (record { status = 0; back = 0; part = 0 })
