use Rattle.std.proofs.Common.{◌≡◌, ℕ, map, length, take}
use Rattle.std.specs.List.{All, filter}
use Rattle.theory_edge_to_edge.specs.Lying.{lie_of, is_along}
use Rattle.cyclo_points.specs.Order.{points_of}
use Rattle.rule_model.specs.declared.rule.Rule.{Rule}
use Rattle.rule_model.specs.Views.{rule_of}
use Rattle.dissect_check.specs.Views.{edge_in, IsFit, IsInflated}
use Rattle.dissect_check.proofs.boundary.edges_along.Given as goal

abbrev pub invariant-loop-child_edge : goal.invariant-loop-child_edge
invariant-loop-child_edge l = record {
  edges : (r : Rule) (k : ℕ) → IsInflated r k l.inflated
      → map (edge_in r.order) l.found.items ≡ filter
      (λ s. is_along l.edge (lie_of (points_of r.order) (rule_of r) k s))
      (map (edge_in r.order) (take (length l.yielded) l.inflated.edges.items));
  fit : (r : Rule) (k : ℕ) → IsInflated r k l.inflated → All (IsFit r) l.found.items;
}
