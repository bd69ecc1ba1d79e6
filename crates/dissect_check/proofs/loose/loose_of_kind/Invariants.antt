use Rattle.std.proofs.Common.{◌≡◌, map, drop}
use Rattle.theory_addresses.specs.Search.{first_some}
use Rattle.rule_model.specs.Views.{as_rule}
use Rattle.dissect_check.specs.FirstFault.{loose_fault, loose_of_kind}
use Rattle.dissect_check.specs.Views.{edge_in}
use Rattle.dissect_check.proofs.loose.loose_of_kind.Given as goal

-- the edges that are left have the first fault of all
abbrev pub invariant-loop-i : goal.invariant-loop-i
invariant-loop-i l = first_some (map (loose_fault l.rule.order (as_rule l.rule) l.kind)
    (map (edge_in l.rule.order) (drop l.i l.parent.edges.items))) ≡ loose_of_kind l.rule.order
    (as_rule l.rule) l.kind
