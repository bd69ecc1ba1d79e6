use Rattle.std.proofs.Common.{◌≡◌, None}
use Rattle.theory_addresses.specs.Search.{unless, first_below}
use Rattle.theory_edge_to_edge.specs.Uses.{is_used}
use Rattle.rule_model.specs.Views.{rule_of}
use Rattle.dissect_check.specs.declared.check_fault.CheckFault.TheVariants.{Unused}
use Rattle.dissect_check.proofs.uses.uses.Given as goal

abbrev pub invariant-loop-kind : goal.invariant-loop-kind
invariant-loop-kind l = first_below (λ k. unless (is_used (rule_of l.rule) k) (Unused k)) l.kind ≡ None
