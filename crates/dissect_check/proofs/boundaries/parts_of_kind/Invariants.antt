use Rattle.std.proofs.Common.{◌≡◌, map, None, All}
use Rattle.theory_addresses.specs.Search.{first_below, below}
use Rattle.theory_edge_to_edge.specs.Boundary.{parts_of_edge}
use Rattle.theory_edge_to_edge.specs.Contacts.{named_parts}
use Rattle.cyclo_points.specs.Order.{points_of}
use Rattle.edge_tables.specs.Views.{as_child_edge}
use Rattle.rule_model.specs.Views.{rule_of}
use Rattle.dissect_check.specs.FirstFault.{part_fault}
use Rattle.dissect_check.specs.Parts.{AreFew}
use Rattle.dissect_check.proofs.boundaries.parts_of_kind.Given as goal

abbrev pub invariant-loop-edge : goal.invariant-loop-edge
invariant-loop-edge l = record {
  no_fault : first_below (λ e. part_fault l.kind e (parts_of_edge (points_of l.rule.order) (rule_of l.rule) l.kind e)) l.edge ≡ None;
  names : map (λ v. map as_child_edge v.items) l.parts.items ≡ below (named_parts (points_of l.rule.order) (rule_of l.rule) l.kind) l.edge;
  few : All AreFew l.parts.items;
}
