-- The lists of a usable rule have room in the arrays.
use Rattle.std.proofs.Common.{◌≡◌, ℕ, ◌<◌, ◌≤◌, [], length, get_or, sym, ap, ◌∙◌, subst}
use Rattle.std.proofs.lemmas.List.{length-map, get_or-map}
use Rattle.theory_substitution.specs.Rule.{Kind, EdgeType, kind_of}
use Rattle.cyclo_points.specs.declared.point.Point.{Point}
use Rattle.rule_model.specs.declared.kind_row.KindRow.{KindRow}
use Rattle.rule_model.specs.declared.rule.Rule.{Rule}
use Rattle.rule_model.specs.declared.type_row.TypeRow.{TypeRow}
use Rattle.rule_model.specs.Usable.{IsUsable}
use Rattle.rule_model.specs.Views.{as_child, as_kind, as_rule, as_type, rule_of}
use Rattle.rule_model.proofs.Views.{kind_count-in, edge_count-in, vertex_count-in, child_count-in}
use Rattle.c_values.specs.Rules.{HasRoom}

module _ (r : Rule) (usable : IsUsable r) where
  pub type_fits : (i : ℕ) (x : TypeRow) → i < length r.types.items → x ≡ get_or r.types.items i x → length x.parts.items ≤ 8
  type_fits i x inside is =
      let l : i < length (rule_of r).types = subst (λ n. i < n) (sym (length-map r.types.items as_type)) inside in
      let row = get_or-map as_type r.types.items i x (record { mate = 0; parts = [] }) inside ∙ ap as_type (sym is) in
      subst (λ n. n ≤ 8) (ap (λ (t : EdgeType). length t.parts) row) (usable.numbered.at_most_8_parts i l)

  pub kind_fits : (k : ℕ) (x : KindRow) → k < length r.kinds.items → x ≡ get_or r.kinds.items k x → HasRoom x
  kind_fits k x inside is =
      let o = r.order in
      let exists : k < length (rule_of r).kinds =
      subst (λ n. k < n) (sym (kind_count-in o r ∙ length-map r.kinds.items as_kind)) inside in
      let none : Kind Point = record { vertices = []; edges = []; children = [] } in
      let row : kind_of (as_rule r) k ≡ as_kind x = get_or-map as_kind r.kinds.items k x none inside ∙ ap as_kind (sym is) in
      let few = usable.numbered.at_most_12_edges k exists in
      record {
        vertices = subst (λ n. n ≤ 12) (sym (usable.numbered.vertex_each k exists) ∙ vertex_count-in o r k
            ∙ ap (λ (q : Kind Point). length q.vertices) row) few;
        edges = subst (λ n. n ≤ 12) (edge_count-in o r k ∙ ap (λ (q : Kind Point). length q.edges) row) few;
        children = subst (λ n. n ≤ 16) (child_count-in o r k ∙ ap (λ (q : Kind Point). length q.children) row
            ∙ length-map x.children.items as_child) (usable.numbered.at_most_16_children k exists);
      }

  pub types_few : length r.types.items ≤ 32
  types_few = subst (λ n. n ≤ 32) (length-map r.types.items as_type) usable.numbered.at_most_32_types

  pub kinds_few : length r.kinds.items ≤ 16
  kinds_few = subst (λ n. n ≤ 16) (kind_count-in r.order r ∙ length-map r.kinds.items as_kind) usable.numbered.at_most_16_kinds
