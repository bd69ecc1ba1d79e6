-- The rules that have a name.
use Rattle.std.specs.Prelude.{◌≡◌}
use Rattle.theory_addresses.specs.Tables.{Tables}
use Rattle.rule_model.specs.declared.rule.Rule.{Rule}
use Rattle.rule_model.specs.Tiling.{ListedRule, tiling_listed, contacts}
use Rattle.rule_model.specs.Views.{as_rule}
use Rattle.builtin_rules.specs.declared.name.Name.{Name}
use Rattle.builtin_rules.specs.declared.name.Name.TheVariants.{Chair, P2, P3, AmmannBeenker, HalfHex}
use Rattle.builtin_rules.specs.Chair.{chair}
use Rattle.builtin_rules.specs.P2.{p2}
use Rattle.builtin_rules.specs.P3.{p3}
use Rattle.builtin_rules.specs.AmmannBeenker.{ammann_beenker}
use Rattle.builtin_rules.specs.HalfHex.{half_hex}

-- the rule of a name
abbrev pub named : Name → ListedRule
named Chair = chair
named P2 = p2
named P3 = p3
named AmmannBeenker = ammann_beenker
named HalfHex = half_hex

-- the contact tables of the rule of a name, as its geometry gives them
unfoldable pub contacts_named : Name → Tables
contacts_named name = contacts (tiling_listed (named name))

-- a rule of the program has the edition, the order and the lists of one that is written down
pub record IsWritten (w : ListedRule) (r : Rule) : Type 0 where
  pub edition : r.edition ≡ w.edition
  pub order : r.order ≡ w.order
  pub lists : as_rule r ≡ w.rule
