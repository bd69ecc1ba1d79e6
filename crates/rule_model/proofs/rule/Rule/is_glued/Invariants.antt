use Rattle.std.proofs.Common.{◌≡◌, ◌||◌, false}
use Rattle.std.specs.Prelude.{nat_eq}
use Rattle.theory_substitution.specs.RuleParts.{mate}
use Rattle.theory_addresses.specs.Search.{some_below}
use Rattle.theory_edge_to_edge.specs.Glue.{glue_type}
use Rattle.rule_model.specs.Views.{rule_of}
use Rattle.rule_model.proofs.rule.Rule.is_glued.Given as goal

abbrev pub invariant-loop-i : goal.invariant-loop-i
invariant-loop-i l = let r = rule_of l.self in some_below l.i (λ i. nat_eq l.ty (glue_type r i) || nat_eq l.ty (mate r (glue_type r i))) ≡ false
