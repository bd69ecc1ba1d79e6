use Rattle.std.proofs.Common.{◌≡◌, ◌++◌, map, All}
use Rattle.theory_addresses.specs.Search.{below}
use Rattle.theory_edge_to_edge.specs.Edges.{child_edge}
use Rattle.cyclo_points.specs.Order.{points_of}
use Rattle.rule_model.specs.Views.{rule_of}
use Rattle.dissect_check.specs.Views.{edge_in, IsFit}
use Rattle.dissect_check.proofs.child_edges.add_child.Given as goal

abbrev pub invariant-loop-edge : goal.invariant-loop-edge
invariant-loop-edge l = record {
  value : map (edge_in l.rule.order) l.edges.items
      ≡ map (edge_in l.rule.order) l.fn.edges.items ++ below (child_edge (points_of l.rule.order) (rule_of l.rule) l.kind l.child) l.edge;
  fit : All (IsFit l.rule) l.edges.items;
}
