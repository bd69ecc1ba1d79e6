use Rattle.std.proofs.Common.{◌≡◌, None}
use Rattle.theory_addresses.specs.Search.{first_below}
use Rattle.rule_model.specs.Views.{as_rule}
use Rattle.dissect_check.specs.FirstFault.{loose_of_kind}
use Rattle.dissect_check.specs.Views.{AreInflated}
use Rattle.dissect_check.proofs.loose.loose_edges.Given as goal

abbrev pub invariant-loop-kind : goal.invariant-loop-kind
invariant-loop-kind l = record {
  no_fault : first_below (loose_of_kind l.rule.order (as_rule l.rule)) l.kind ≡ None;
  kept : AreInflated l.rule l.kind l.parents.items;
}
