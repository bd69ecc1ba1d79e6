-- The faults of a line, in their order. The line is no statement. A name that it reads is not bound. Its text
-- is no address. The tile does not have the edge. The edge is on the boundary of the supertile. A Horner
-- value is refused. Each says that those before it do not hold, so a line has at most one.
use Rattle.std.specs.Prelude.{◌≡◌, ◌⊎◌, ℕ, ◌≤◌, List, Some, Ok, Err}
use Rattle.theory_addresses.specs.Address.{Address}
use Rattle.cyclo_points.specs.Order.{NumberOf, coefficients}
use Rattle.cyclo_points.specs.declared.point.Point.{Point}
use Rattle.rule_model.specs.Tiling.{Tiling, children}
use Rattle.tile_place.specs.Crossed.{IsOutside, edges_of}
use Rattle.tile_place.specs.Placing.{first_refused}
use Rattle.tile_shape.specs.Accepted.{IsAcceptedAddress}
use Rattle.tile_shape.specs.declared.address_fault.AddressFault.{AddressFault}
use Rattle.tile_shape.specs.Refused.{IsFaultOf}
use Rattle.tile_shape.specs.Text.{address_text}
use Rattle.addr_calc.specs.Bindings.{Bindings, IsBound, IsUnbound}
use Rattle.addr_calc.specs.declared.calc_fault.CalcFault.{CalcFault}
use Rattle.addr_calc.specs.declared.calc_fault.CalcFault.TheVariants.{BadLine, UnknownName, Address as BadAddress, NoEdge, Outside, CoordLimit}
use Rattle.addr_calc.specs.Statement.{Statement}
use Rattle.addr_calc.specs.Statement.Statement.{Let, Show, Place, Across, Common, Pair}
use Rattle.addr_calc.specs.Reading.{statement_in}

-- a name that the statement reads is not bound
abbrev pub ReadsUnbound : Bindings → Statement → Type 0
ReadsUnbound names (Show name) = IsUnbound names name
ReadsUnbound names (Place name) = IsUnbound names name
ReadsUnbound names (Across name edge other) = IsUnbound names name
ReadsUnbound names (Common one other) = IsUnbound names one ⊎ IsUnbound names other
ReadsUnbound names (Pair one other) = IsUnbound names one ⊎ IsUnbound names other
ReadsUnbound names _ = ⊥

-- the text is not the address of a tile of the tiling, and this is its first fault
pub record IsNoAddressOfLine (t : Tiling) (text : List ℕ) (fault : AddressFault) : Type 0 where
  pub none : (a : Address) → IsAcceptedAddress (children t) a → text ≡ address_text a → ⊥
  pub first : IsFaultOf (children t) text fault

-- the tile of the name does not have the edge
pub record LineLacksEdge (t : Tiling) (names : Bindings) (name edge : ℕ) : Type 0 where
  pub address : Address
  pub bound : IsBound names name address
  pub beyond : edges_of t address.kind ≤ edge

-- the edge of this name's tile lies along this edge of its supertile's polygon, on this part of it, and along
-- no other
pub record LiesOutside (t : Tiling) (names : Bindings) (name own edge part : ℕ) : Type 0 where
  pub address : Address
  pub bound : IsBound names name address
  pub outside : IsOutside t address own edge part

-- this point is the first refused Horner value of the tile of the name
pub record LinePassesLimit (t : Tiling) (names : Bindings) (name : ℕ) (value : Point) : Type 0 where
  pub address : Address
  pub bound : IsBound names name address
  pub number : NumberOf t.order
  pub first : first_refused t address.digits ≡ Some number
  pub is_value : value.c ≡ coefficients t.order number

-- The statement is refused by this fault, which has the number of its line. Out of memory is not a fault of a
-- statement.
abbrev pub LineRefuses : Tiling → Bindings → Statement → ℕ → CalcFault → Type 0
LineRefuses t names statement number (UnknownName at) = (at ≡ number) × ReadsUnbound names statement
LineRefuses t names (Let name text) number (BadAddress at fault) = (at ≡ number)
    × IsNoAddressOfLine t text fault
LineRefuses t names (Across name edge other) number (NoEdge at) = (at ≡ number)
    × LineLacksEdge t names name edge
LineRefuses t names (Across name edge other) number (Outside at own part) = (at ≡ number)
    × LiesOutside t names name edge own part
LineRefuses t names (Place name) number (CoordLimit at value) = (at ≡ number)
    × LinePassesLimit t names name value
LineRefuses t names statement number _ = ⊥

-- the fault of a line, by its number and its text
abbrev pub HasFault : Tiling → Bindings → ℕ → List ℕ → CalcFault → Type 0
HasFault t names number text (BadLine at place) = (at ≡ number) × (statement_in text ≡ Err place)
HasFault t names number text fault = (statement : Statement) × (statement_in text ≡ Ok statement)
    × LineRefuses t names statement number fault
