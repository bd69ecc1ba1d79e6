-- An accepted rule: all that the theorems are about, in one.
use Rattle.std.specs.Prelude.{ℕ, ◌<◌, Bool}
use Rattle.theory_substitution.specs.Points.{Points}
use Rattle.theory_addresses.specs.Address.{Address, Fits}
use Rattle.theory_addresses.specs.Tables.{child_kinds}
use Rattle.theory_substitution.specs.Rule.{Rule}
use Rattle.theory_substitution.specs.RuleParts.{edge_count}
use Rattle.theory_edge_to_edge.specs.Contacts.{tables_of}
use Rattle.theory_edge_to_edge.specs.Edition.{Edition}
use Rattle.theory_edge_to_edge.specs.EdgeToEdge.{IsEdgeToEdge}
use Rattle.theory_edge_to_edge.specs.Numbered.{IsNumbered}

-- a rule over the points of P that is accepted: its numbers exist, and it passes the further tests, in this
-- edition and with these refused values
pub record AcceptedRule (P : Points) : Type 0 where
  pub edition : Edition
  pub refused : P.ring.carrier → Bool
  pub rule : Rule P.ring.carrier
  pub numbered : IsNumbered P rule
  pub edge_to_edge : IsEdgeToEdge P edition refused rule

-- the address names a tile, by the contact tables of the rule
abbrev pub NamesTile : (P : Points) → Rule P.ring.carrier → Address → Type 0
NamesTile P r a = Fits (child_kinds (tables_of P r)) a

-- the address names a tile, and the tile has an edge of this number
pub record HasEdge (P : Points) (r : Rule P.ring.carrier) (a : Address) (e : ℕ) : Type 0 where
  pub fits : NamesTile P r a
  pub edge_exists : e < edge_count r a.kind
