use Rattle.std.proofs.Common.{◌≡◌, map, All}
use Rattle.std.specs.List.{flat_map}
use Rattle.theory_addresses.specs.Search.{below}
use Rattle.theory_edge_to_edge.specs.Edges.{edges_of_child}
use Rattle.cyclo_points.specs.Order.{points_of}
use Rattle.rule_model.specs.Views.{rule_of}
use Rattle.dissect_check.specs.Views.{edge_in, IsFit}
use Rattle.dissect_check.proofs.child_edges.child_edges.Given as goal

abbrev pub invariant-loop-child : goal.invariant-loop-child
invariant-loop-child l = record {
  value : map (edge_in l.rule.order) l.edges.items ≡ flat_map
      (edges_of_child (points_of l.rule.order) (rule_of l.rule) l.kind) (below (λ c. c) l.child);
  fit : All (IsFit l.rule) l.edges.items;
}
