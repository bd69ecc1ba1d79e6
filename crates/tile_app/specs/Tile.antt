-- A tile by the text of its address.
use Rattle.std.specs.Prelude.{◌≡◌, ℕ, Bool, List, is_ok}
use Rattle.theory_addresses.specs.Address.{Address}
use Rattle.rule_model.specs.Tiling.{Tiling, children}
use Rattle.tile_shape.specs.Accepted.{IsAcceptedAddress}
use Rattle.tile_shape.specs.AddressIn.{address_of_text}
use Rattle.tile_shape.specs.declared.address_fault.AddressFault.{AddressFault}
use Rattle.tile_shape.specs.Refused.{IsFaultOf}
use Rattle.tile_shape.specs.Text.{address_text}

-- the text is the address of this tile of the tiling
pub record IsTile (t : Tiling) (text : List ℕ) (a : Address) : Type 0 where
  pub is_text : text ≡ address_text a
  pub accepted : IsAcceptedAddress (children t) a

-- the text is the address of no tile of the tiling
abbrev pub IsNoAddress : Tiling → List ℕ → Type 0
IsNoAddress t text = (a : Address) → IsAcceptedAddress (children t) a → text ≡ address_text a → ⊥

-- the text is not the address of a tile, for this fault, the first in the order of faults
pub record IsNoTile (t : Tiling) (text : List ℕ) (fault : AddressFault) : Type 0 where
  pub none : IsNoAddress t text
  pub first : IsFaultOf (children t) text fault

-- true if the text is the address of a tile of the tiling, as a test that computes
abbrev pub is_tile : Tiling → List ℕ → Bool
is_tile t text = is_ok (address_of_text (children t) text)

-- the text is the address of a tile, and this holds of the tile
pub record OfTile (t : Tiling) (text : List ℕ) (P : Address → Type 0) : Type 0 where
  pub address : Address
  pub tile : IsTile t text address
  pub holds : P address
