-- An inflated prototile has as many edges as the prototile: at most twelve.
use Rattle.theory_addresses.proofs.Ranges.{length-below}
use Rattle.std.proofs.Common.{◌≡◌, ℕ, ◌<◌, ◌≤◌, List, map, length, sym, ap, ◌∙◌, arith}
use Rattle.std.proofs.lemmas.List.{length-map}
use Rattle.theory_substitution.specs.RuleParts.{edge_count}
use Rattle.theory_edge_to_edge.specs.Edges.{inflated_edge, inflated_edges}
use Rattle.cyclo_points.specs.Order.{points_of}
use Rattle.rule_model.specs.declared.rule.Rule.{Rule}
use Rattle.rule_model.specs.Usable.{IsUsable}
use Rattle.rule_model.specs.Views.{rule_of}
use Rattle.dissect_check.specs.declared.line.Line.{Line}
use Rattle.dissect_check.specs.Views.{line_in}

module _ (r : Rule) (k : ℕ) (wholes : List Line) (e : map (line_in r.order) wholes ≡ inflated_edges (points_of r.order) (rule_of r) k) where
  pub whole_count : length wholes ≡ edge_count (rule_of r) k
  whole_count = sym (length-map wholes (line_in r.order)) ∙ ap length e
      ∙ length-below (inflated_edge (points_of r.order) (rule_of r) k) (edge_count (rule_of r) k)

  pub at_most_12_wholes : IsUsable r → k < length (rule_of r).kinds → length wholes ≤ 12
  at_most_12_wholes u l = omega (arith, whole_count, u.numbered.at_most_12_edges k l)
