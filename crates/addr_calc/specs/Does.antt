-- What a statement does: the names as they are bound after it, and what it prints.
use Rattle.std.specs.Prelude.{◌≡◌, ℕ, ◌<◌, List, [], Option, None, Ok}
use Rattle.theory_addresses.specs.Address.{Address}
use Rattle.rule_model.specs.Tiling.{Tiling, MotionOf, IsPlaced, children}
use Rattle.tile_place.specs.Crossed.{IsOnlyAcross, LiesAlongNone, edges_of}
use Rattle.tile_place.specs.Placing.{first_refused}
use Rattle.tile_shape.specs.Accepted.{IsAcceptedAddress}
use Rattle.tile_shape.specs.Text.{address_text}
use Rattle.addr_calc.specs.Bindings.{Bindings, IsBound, bind}
use Rattle.addr_calc.specs.Level.{IsCommonLevel}
use Rattle.addr_calc.specs.Relation.{Relation, IsRelation}
use Rattle.addr_calc.specs.Statement.{Statement}
use Rattle.addr_calc.specs.Statement.Statement.{Nothing, Let, Show, Place, Across, Common, Pair}
use Rattle.addr_calc.specs.Reading.{statement_in}
use Rattle.addr_calc.specs.Printed.{show_line, line_of_place, across_line, common_line, pair_line}

-- the name is bound to the address with this text, which is that of a tile of the tiling
pub record Binds (t : Tiling) (names : Bindings) (name : ℕ) (text : List ℕ) (after : Bindings)
    (printed : List ℕ) : Type 0 where
  pub address : Address
  pub accepted : IsAcceptedAddress (children t) address
  pub its_text : text ≡ address_text address
  pub binds : after ≡ bind names name address
  pub silent : printed ≡ []

-- the address of the name is printed
pub record Shows (names : Bindings) (name : ℕ) (after : Bindings) (printed : List ℕ) : Type 0 where
  pub address : Address
  pub bound : IsBound names name address
  pub keeps : after ≡ names
  pub line : printed ≡ show_line name address

-- No Horner value of the tile is refused. Its kind is printed, and its motion in its supertile.
pub record Places (t : Tiling) (names : Bindings) (name : ℕ) (after : Bindings)
    (printed : List ℕ) : Type 0 where
  pub address : Address
  pub bound : IsBound names name address
  pub within : first_refused t address.digits ≡ None
  pub motion : MotionOf t
  pub placed : IsPlaced t address motion
  pub keeps : after ≡ names
  pub line : printed ≡ line_of_place t.order name address.kind motion

-- The tile has the edge, which is not on the boundary of the supertile. The other name is bound to the tile
-- across it. With both tiles placed in their common supertile, this is the only tile across the edge. Its
-- address is printed, and the edge there that leads back.
pub record LineCrosses (t : Tiling) (names : Bindings) (name edge other : ℕ) (after : Bindings)
    (printed : List ℕ) : Type 0 where
  pub address : Address
  pub bound : IsBound names name address
  pub exists : edge < edges_of t address.kind
  pub on_none : LiesAlongNone t address edge
  pub across : Address
  pub back : ℕ
  pub only_across : IsOnlyAcross t address edge across back
  pub leads_back : IsOnlyAcross t across back address edge
  pub binds : after ≡ bind names other across
  pub line : printed ≡ across_line other across back

-- the least level from which on the two addresses agree is printed, or that there is none
pub record Compares (names : Bindings) (one other : ℕ) (after : Bindings) (printed : List ℕ) : Type 0 where
  pub address : Address
  pub bound : IsBound names one address
  pub second : Address
  pub second_bound : IsBound names other second
  pub level : Option ℕ
  pub common : IsCommonLevel address second level
  pub keeps : after ≡ names
  pub line : printed ≡ common_line one other level

-- The relation of the two tiles is printed: the edges of the first that have the second across them in their
-- common supertile, with the edges there that lead back.
pub record Relates (t : Tiling) (names : Bindings) (one other : ℕ) (after : Bindings)
    (printed : List ℕ) : Type 0 where
  pub address : Address
  pub bound : IsBound names one address
  pub second : Address
  pub second_bound : IsBound names other second
  pub relation : Relation
  pub is_relation : IsRelation t address second relation
  pub keeps : after ≡ names
  pub line : printed ≡ pair_line one other relation

-- what each statement does
abbrev pub Does : Tiling → Bindings → Statement → Bindings → List ℕ → Type 0
Does t names Nothing after printed = (after ≡ names) × (printed ≡ [])
Does t names (Let name text) after printed = Binds t names name text after printed
Does t names (Show name) after printed = Shows names name after printed
Does t names (Place name) after printed = Places t names name after printed
Does t names (Across name edge other) after printed = LineCrosses t names name edge other after printed
Does t names (Common one other) after printed = Compares names one other after printed
Does t names (Pair one other) after printed = Relates t names one other after printed

-- a line can be run: its text is a statement, which does this
pub record Runs (t : Tiling) (names : Bindings) (text : List ℕ) (after : Bindings)
    (printed : List ℕ) : Type 0 where
  pub statement : Statement
  pub is_statement : statement_in text ≡ Ok statement
  pub does : Does t names statement after printed
