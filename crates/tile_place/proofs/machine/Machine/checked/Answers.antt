use Rattle.std.proofs.Common.{◌≡◌, subst}
use Rattle.theory_addresses.specs.Tables.{child_kinds}
use Rattle.rule_model.specs.declared.rule.Rule.{Rule}
use Rattle.rule_model.specs.Tiling.{tiling_of, contacts, children}
use Rattle.tile_place.proofs.machine.Machine.checked.Goals as goal

pub returns-clause-same_child_kinds : goal.returns-clause-same_child_kinds
returns-clause-same_child_kinds c = subst (λ (r : Rule). child_kinds (contacts (tiling_of r)) ≡ children
    (tiling_of r)) c.self.view_is c.tables-same_child_kinds.ensures.same_uses
