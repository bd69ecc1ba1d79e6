-- What is known of a checked rule.
use Rattle.std.specs.Prelude.{◌≡◌}
use Rattle.theory_addresses.specs.Tables.{child_kinds}
use Rattle.rule_model.specs.declared.rule.Rule.{Rule}
use Rattle.rule_model.specs.Accepted.{IsAccepted}
use Rattle.rule_model.specs.Tiling.{tiling_of, contacts, children}
use Rattle.rule_model.specs.Usable.{IsUsable}
use Rattle.tile_shape.specs.Usable.{AreUsable}

-- The rule is accepted, and its numbers exist. Each of its kinds has a use, and its contact tables have its
-- child kinds. This holds for the rule of every machine.
pub record IsCheckedRule (r : Rule) : Type 0 where
  pub accepted : IsAccepted r
  pub usable : IsUsable r
  pub uses_usable : AreUsable (children (tiling_of r))
  pub same_child_kinds : child_kinds (contacts (tiling_of r)) ≡ children (tiling_of r)
