-- The address that a text has.
use Rattle.std.specs.Prelude.{◌≡◌, ◌↔◌, ◌⊎◌, ℕ, List, Ok, IsOk}
use Rattle.rule_model.specs.Tiling.{Tiling, children}
use Rattle.tile_shape.specs.AddressIn.{address_of_text as address_of_text}
use Rattle.c_values.specs.declared.plain_address.PlainAddress.{PlainAddress}
use Rattle.c_values.specs.Addresses.{address_in, NamesTile}
use Rattle.c_values.specs.Statuses.{ok, bad_address}

-- what a call shows of a text: the address of a tile, or that the text is none of a tile
pub record ShowsAddressRead (t : Tiling) (text : List ℕ) (addr : PlainAddress) (status : ℕ) : Type 0 where
  pub read : status ≡ ok → address_of_text (children t) text ≡ Ok (address_in addr)
  pub names : status ≡ ok → NamesTile t addr
  pub names_none : (status ≡ bad_address) ↔ (¬ IsOk (address_of_text (children t) text))
  pub statuses : (status ≡ ok) ⊎ (status ≡ bad_address)
