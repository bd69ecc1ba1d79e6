-- What the plain addresses of C stand for.
use Rattle.std.specs.Prelude.{◌≡◌, ◌≤◌, map, take, replicate}
use Rattle.theory_addresses.specs.Address as theory
use Rattle.rule_model.specs.Tiling.{Tiling, children}
use Rattle.tile_shape.specs.Views.{step_of}
use Rattle.c_values.specs.declared.plain_address.PlainAddress.{PlainAddress}

-- an address: the kind, and the first `depth` digits
abbrev pub address_in : PlainAddress → theory.Address
address_in p = record { kind = p.kind; digits = map step_of (take p.depth p.digits) }

-- the numbers are those of this address, which has at most 64 digits
pub record ShowsAddress (p : PlainAddress) (a : theory.Address) : Type 0 where
  pub no_deeper : p.depth ≤ 64
  pub its_digits : address_in p ≡ a

-- an address whose numbers are all 0
abbrev pub blank_address : PlainAddress
blank_address = record { kind = 0; depth = 0; digits = replicate 64 (record { child = 0; parent = 0 }) }

-- the numbers are the address of a tile of this tiling, with at most 64 digits
pub record NamesTile (t : Tiling) (p : PlainAddress) : Type 0 where
  pub no_deeper : p.depth ≤ 64
  pub fits : theory.Fits (children t) (address_in p)
