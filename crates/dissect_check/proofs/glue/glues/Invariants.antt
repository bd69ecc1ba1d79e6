use Rattle.std.proofs.Common.{◌≡◌, None}
use Rattle.theory_addresses.specs.Search.{unless, first_below}
use Rattle.theory_edge_to_edge.specs.Glue.{glue_type, glues_halves}
use Rattle.rule_model.specs.Views.{rule_of}
use Rattle.dissect_check.specs.declared.check_fault.CheckFault.TheVariants.{GlueWrong}
use Rattle.dissect_check.proofs.glue.glues.Given as goal

abbrev pub invariant-loop-i : goal.invariant-loop-i
invariant-loop-i l = first_below (λ i. unless (glues_halves (rule_of l.rule) i) (GlueWrong (glue_type (rule_of l.rule) i))) l.i ≡ None
