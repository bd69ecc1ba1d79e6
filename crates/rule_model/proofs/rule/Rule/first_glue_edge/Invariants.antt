use Rattle.std.proofs.Common.{◌≡◌, ℕ, ◌<◌, false}
use Rattle.theory_substitution.specs.RuleParts.{edge_type}
use Rattle.rule_model.specs.Glue.{is_glued}
use Rattle.rule_model.specs.Views.{rule_of}
use Rattle.rule_model.proofs.rule.Rule.first_glue_edge.Given as goal

abbrev pub invariant-loop-edge : goal.invariant-loop-edge
invariant-loop-edge l = let r = rule_of l.self in (e : ℕ) → e < l.edge → is_glued r (edge_type r l.kind e) ≡ false
