-- The row of a kind, as the numbers of the rule's order have it.
use Rattle.std.proofs.Common.{◌≡◌, ℕ, ◌<◌, [], map, length, get_or, sym, ap, ◌∙◌, arith}
use Rattle.std.proofs.lemmas.List.{get_or-map, length-map}
use Rattle.std.proofs.lemmas.Simd.{map-map}
use Rattle.theory_substitution.specs.Rule.{Kind, Child as TheChild, kind_of, children_of}
use Rattle.theory_substitution.specs.RuleParts.{map_kind, map_child, edge_types}
use Rattle.cyclo_points.specs.declared.point.Point.{Point}
use Rattle.cyclo_points.specs.Order.{NumberOf}
use Rattle.cyclo_points.specs.Point.{point_in}
use Rattle.rule_model.specs.declared.rule.Rule.{Rule}
use Rattle.rule_model.specs.declared.child.Child.{Child}
use Rattle.rule_model.specs.declared.kind_row.KindRow.{KindRow}
use Rattle.rule_model.specs.Views.{as_rule, as_kind, as_child, rule_of}
use Rattle.rule_model.proofs.Views.{kind_of-map, kind_count-in}

pub row_there : (r : Rule) (k : ℕ) → k < length (rule_of r).kinds → k < length r.kinds.items
row_there r k l = omega (arith, kind_count-in r.order r, length-map r.kinds.items as_kind)

module _ (r : Rule) (k : ℕ) (row : KindRow) (there : k < length r.kinds.items) (is : row ≡ get_or r.kinds.items k row) where
  kind_is : kind_of (rule_of r) k ≡ map_kind (point_in r.order) (as_kind row)
  kind_is =
      kind_of-map (point_in r.order) (as_rule r) k
      ∙ ap (map_kind (point_in r.order)) (get_or-map as_kind r.kinds.items k row
      (record { vertices = []; edges = []; children = [] }) there ∙ ap as_kind (sym is))

  pub types_are : row.edges.items ≡ edge_types (rule_of r) k
  types_are = sym (ap (λ (x : Kind (NumberOf r.order)). x.edges) kind_is)

  pub kinds_are : map (λ (c : Child). c.kind) row.children.items ≡ map (λ (c : TheChild (NumberOf r.order)). c.kind) (children_of (rule_of r) k)
  kinds_are =
      sym (map-map (λ (c : TheChild Point). c.kind) as_child row.children.items)
      ∙ sym (map-map (λ (c : TheChild (NumberOf r.order)). c.kind) (map_child (point_in r.order)) (map as_child row.children.items))
      ∙ sym (ap (λ (x : Kind (NumberOf r.order)). map (λ (c : TheChild (NumberOf r.order)). c.kind) x.children) kind_is)
