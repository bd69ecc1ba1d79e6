use Rattle.std.proofs.Common.{◌≡◌, ◌++◌, take}
use Rattle.theory_substitution.specs.RuleParts.{edge_types}
use Rattle.theory_edge_to_edge.specs.Glue.{once_each}
use Rattle.rule_model.specs.Views.{rule_of}
use Rattle.dissect_check.specs.Few.{few_of}
use Rattle.dissect_check.proofs.Holders.{holders_below}
use Rattle.dissect_check.proofs.glue.holders.Given as goal

abbrev pub invariant-loop-kind : goal.invariant-loop-kind
invariant-loop-kind l = l.found ≡ few_of (holders_below (rule_of l.rule) l.ty l.kind)

abbrev pub invariant-loop-edge : goal.invariant-loop-edge
invariant-loop-edge l = l.found ≡ few_of (holders_below (rule_of l.rule) l.ty l.kind
    ++ once_each l.kind l.ty (take l.edge (edge_types (rule_of l.rule) l.kind)))
