use Rattle.std.proofs.Common.{◌≡◌, None}
use Rattle.theory_addresses.specs.Search.{unless, first_below}
use Rattle.theory_edge_to_edge.specs.EdgeTypes.{has_length_of_type}
use Rattle.cyclo_points.specs.Order.{points_of}
use Rattle.rule_model.specs.Views.{as_rule, rule_of}
use Rattle.dissect_check.specs.declared.check_fault.CheckFault.TheVariants.{BadLength}
use Rattle.dissect_check.specs.FirstFault.{lengths_of_kind}
use Rattle.dissect_check.proofs.lengths.lengths.Given as goal

abbrev pub invariant-loop-kind : goal.invariant-loop-kind
invariant-loop-kind l = first_below (lengths_of_kind l.rule.order (as_rule l.rule)) l.kind ≡ None

abbrev pub invariant-loop-edge : goal.invariant-loop-edge
invariant-loop-edge l = first_below (λ e. unless
    (has_length_of_type (points_of l.rule.order) (rule_of l.rule) l.kind e) (BadLength l.kind e))
    l.edge ≡ None
