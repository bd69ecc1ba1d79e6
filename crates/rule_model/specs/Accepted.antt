-- Accepted rules.
use Rattle.theory_edge_to_edge.specs.Limited.{WithinLimits}
use Rattle.theory_edge_to_edge.specs.EdgeToEdge.{IsEdgeToEdge}
use Rattle.cyclo_points.specs.Order.{points_of, is_refused}
use Rattle.rule_model.specs.declared.rule.Rule.{Rule}
use Rattle.rule_model.specs.Small.{is_small}
use Rattle.rule_model.specs.Views.{as_rule, rule_of, as_edition}

-- all ten clauses hold: the limits of counts and numbers, and the nine that make its children fit edge to
-- edge, in the form of the rule's edition
pub record IsAccepted (r : Rule) : Type 0 where
  pub limits : WithinLimits (points_of r.order).order (is_small r.order) (as_rule r)
  pub edge_to_edge : IsEdgeToEdge (points_of r.order) (as_edition r.edition) (is_refused r.order) (rule_of r)
