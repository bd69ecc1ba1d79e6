use Rattle.std.specs.Prelude.{nat_eq}
use Rattle.std.specs.List.{list_any}
use Rattle.std.proofs.Common.{◌≡◌, ◌||◌, false, take}
use Rattle.theory_substitution.specs.RuleParts.{mate, edge_types}
use Rattle.rule_model.specs.Views.{rule_of}
use Rattle.dissect_check.proofs.glue.has_edge_along.Given as goal

abbrev pub invariant-loop-edge : goal.invariant-loop-edge
invariant-loop-edge l =
    list_any (λ t. nat_eq t l.ty || nat_eq t (mate (rule_of l.rule) l.ty)) (take l.edge (edge_types (rule_of l.rule) l.kind)) ≡ false
