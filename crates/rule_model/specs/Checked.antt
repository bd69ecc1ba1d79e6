-- What a checked rule has with it.
use Rattle.std.specs.Prelude.{◌≡◌, ℕ, List}
use Rattle.theory_addresses.specs.Tables.{Tables}
use Rattle.rule_model.specs.declared.rule.Rule.{Rule}
use Rattle.rule_model.specs.Accepted.{IsAccepted}
use Rattle.rule_model.specs.Tiling.{tiling_of, contacts, children}

-- the contact tables of a rule's tiling, and the kinds of each kind's children
abbrev pub rule_contacts : Rule → Tables
rule_contacts r = contacts (tiling_of r)

abbrev pub child_kinds_of : Rule → List (List ℕ)
child_kinds_of r = children (tiling_of r)

-- the rule is accepted, and these are the contact tables and the child kinds of its tiling
pub record IsChecked (r : Rule) (tables : Tables) (uses : List (List ℕ)) : Type 0 where
  pub accepted : IsAccepted r
  pub its_tables : tables ≡ contacts (tiling_of r)
  pub its_uses : uses ≡ children (tiling_of r)
