use Rattle.std.proofs.Common.{◌≡◌, map, None}
use Rattle.theory_addresses.specs.Search.{first_below, below}
use Rattle.theory_edge_to_edge.specs.Contacts.{tables_of_kind}
use Rattle.cyclo_points.specs.Order.{points_of}
use Rattle.edge_tables.specs.Views.{as_kind_tables}
use Rattle.rule_model.specs.Views.{as_rule, rule_of}
use Rattle.dissect_check.specs.FirstFault.{boundary_of_kind}
use Rattle.dissect_check.proofs.boundaries.boundaries.Given as goal

abbrev pub invariant-loop-kind : goal.invariant-loop-kind
invariant-loop-kind l = record {
  no_fault : first_below (boundary_of_kind l.rule.order (as_rule l.rule)) l.kind ≡ None;
  tables : map as_kind_tables l.rows.items ≡ below (tables_of_kind (points_of l.rule.order) (rule_of l.rule)) l.kind;
}
