use Rattle.std.specs.Prelude.{nat_eq}
use Rattle.std.specs.List.{list_any}
use Rattle.std.proofs.Common.{◌≡◌, ◌||◌, false}
use Rattle.theory_substitution.specs.RuleParts.{mate, edge_types}
use Rattle.theory_addresses.specs.Search.{some_below}
use Rattle.theory_edge_to_edge.specs.Glue.{glue_type}
use Rattle.rule_model.specs.Views.{rule_of}
use Rattle.dissect_check.proofs.glue.is_glued_before.Given as goal

abbrev pub invariant-loop-i : goal.invariant-loop-i
invariant-loop-i l =
    let r = rule_of l.rule in
    some_below l.i (λ i. list_any (λ ty. nat_eq ty (glue_type r i) || nat_eq ty (mate r (glue_type r i))) (edge_types r l.kind)) ≡ false
