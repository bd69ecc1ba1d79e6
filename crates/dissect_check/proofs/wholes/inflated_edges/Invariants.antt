use Rattle.std.proofs.Common.{◌≡◌, map, All}
use Rattle.theory_addresses.specs.Search.{below}
use Rattle.theory_edge_to_edge.specs.Edges.{inflated_edge}
use Rattle.cyclo_points.specs.Order.{points_of}
use Rattle.rule_model.specs.Views.{rule_of}
use Rattle.dissect_check.specs.Views.{line_in, IsSmallLine}
use Rattle.dissect_check.proofs.wholes.inflated_edges.Given as goal

abbrev pub invariant-loop-edge : goal.invariant-loop-edge
invariant-loop-edge l = record {
  value : map (line_in l.rule.order) l.lines.items ≡ below (inflated_edge (points_of l.rule.order) (rule_of l.rule) l.kind) l.edge;
  small : All (IsSmallLine l.rule.order) l.lines.items;
}
