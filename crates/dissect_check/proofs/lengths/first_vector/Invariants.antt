use Rattle.std.proofs.Common.{◌≡◌, None}
use Rattle.theory_addresses.specs.Search.{first_below}
use Rattle.theory_substitution.specs.RuleParts.{edge_count}
use Rattle.theory_edge_to_edge.specs.EdgeTypes.{vector_if}
use Rattle.cyclo_points.specs.Order.{points_of}
use Rattle.rule_model.specs.Views.{rule_of}
use Rattle.dissect_check.proofs.lengths.first_vector.Given as goal

abbrev pub invariant-loop-kind : goal.invariant-loop-kind
invariant-loop-kind l = first_below (λ k. first_below
    (vector_if (points_of l.rule.order) (rule_of l.rule) l.ty k) (edge_count (rule_of l.rule) k))
    l.kind ≡ None

abbrev pub invariant-loop-edge : goal.invariant-loop-edge
invariant-loop-edge l = first_below (vector_if (points_of l.rule.order) (rule_of l.rule) l.ty l.kind) l.edge ≡ None
