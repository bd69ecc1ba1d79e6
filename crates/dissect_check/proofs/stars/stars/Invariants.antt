use Rattle.std.proofs.Common.{◌≡◌, None}
use Rattle.theory_substitution.specs.RuleParts.{vertices_of}
use Rattle.theory_addresses.specs.Search.{unless, first_below}
use Rattle.theory_edge_to_edge.specs.Star.{is_star}
use Rattle.cyclo_points.specs.Order.{points_of}
use Rattle.rule_model.specs.Views.{rule_of}
use Rattle.dissect_check.specs.declared.check_fault.CheckFault.TheVariants.{NotStar}
use Rattle.dissect_check.proofs.stars.stars.Given as goal

abbrev pub invariant-loop-kind : goal.invariant-loop-kind
invariant-loop-kind l = first_below (λ k. unless (is_star (points_of l.rule.order) (vertices_of (rule_of l.rule) k)) (NotStar k)) l.kind ≡ None
