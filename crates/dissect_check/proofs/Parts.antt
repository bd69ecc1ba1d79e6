-- The parts of the edges of a kind, edge by edge.
use Rattle.std.specs.Prelude.{Vec}
use Rattle.std.specs.Global.{Global}
use Rattle.std.proofs.Common.{◌≡◌, ℕ, ◌<◌, List, [], map, length, get_or, sym, ap, subst, ◌∙◌}
use Rattle.std.proofs.lemmas.List.{get_or-map, length-map}
use Rattle.theory_substitution.specs.RuleParts.{edge_count}
use Rattle.theory_edge_to_edge.specs.Contacts.{named_parts}
use Rattle.cyclo_points.specs.Order.{points_of}
use Rattle.edge_tables.specs.declared.child_edge.ChildEdge.{ChildEdge}
use Rattle.edge_tables.specs.Views.{as_child_edge}
use Rattle.rule_model.specs.declared.rule.Rule.{Rule}
use Rattle.rule_model.specs.Views.{rule_of}
use Rattle.dissect_check.specs.Parts.{AreParts}
use Rattle.theory_addresses.proofs.Ranges.{get_or-below, length-below}

module _ (r : Rule) (k : ℕ) (parts : List (Vec ChildEdge Global)) (fact : AreParts r k parts) where
  -- one list for each edge
  pub part_lists : length parts ≡ edge_count (rule_of r) k
  part_lists = sym (length-map parts (λ v. map as_child_edge v.items)) ∙ ap length fact.names
      ∙ length-below (named_parts (points_of r.order) (rule_of r) k) (edge_count (rule_of r) k)

  -- that of edge number e
  pub parts_at : (e : ℕ) (v : Vec ChildEdge Global) → e < length parts → v ≡ get_or parts e v
      → map as_child_edge v.items ≡ named_parts (points_of r.order) (rule_of r) k e
  parts_at e v l h =
      ap (λ w. map as_child_edge w.items) h
      ∙ sym (get_or-map (λ w. map as_child_edge w.items) parts e v [] l)
      ∙ ap (λ xs. get_or xs e []) fact.names
      ∙ get_or-below (named_parts (points_of r.order) (rule_of r) k) (edge_count (rule_of r) k) e [] (subst (λ n. e < n) part_lists l)
