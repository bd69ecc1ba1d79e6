-- The numbers of the built-in rules exist, by evaluation.
use Rattle.std.proofs.Common.{◌≡◌, ℕ, ◌<◌, Bool, true, length, get_or, nat_le, nat_lt, refl}
use Rattle.std.specs.Prelude.{nat_eq}
use Rattle.std.proofs.lemmas.Bool.{ltb-true, leb-true, eqb-true}
use Rattle.theory_addresses.specs.Search.{all_below}
use Rattle.theory_addresses.proofs.CoherenceTests.{all_below-at}
use Rattle.theory_substitution.specs.Points.{Points}
use Rattle.theory_substitution.specs.Rule.{Rule, children_of}
use Rattle.theory_substitution.specs.RuleParts.{mate, parts, vertices_of, edge_count, edge_type, child_of}
use Rattle.theory_edge_to_edge.specs.Glue.{glue_type}
use Rattle.theory_edge_to_edge.specs.Numbered.{IsNumbered}
use Rattle.cyclo_points.specs.Order.{points_of}
use Rattle.rule_model.specs.Tiling.{tiling_listed}
use Rattle.builtin_rules.specs.declared.name.Name.{Name}
use Rattle.builtin_rules.specs.declared.name.Name.TheVariants.{Chair, P2, P3, AmmannBeenker, HalfHex}
use Rattle.builtin_rules.specs.Named.{named}

-- that the numbers of a rule exist, as tests
record HasNumbers (P : Points) (r : Rule P.ring.carrier) : Type 0 where
  some_kind : nat_le 1 (length r.kinds) ≡ true
  at_most_16_kinds : nat_le (length r.kinds) 16 ≡ true
  some_type : nat_le 1 (length r.types) ≡ true
  at_most_32_types : nat_le (length r.types) 32 ≡ true
  at_most_16_glue_types : nat_le (length r.glue) 16 ≡ true
  glue_exists : all_below (length r.glue) (λ i. nat_lt (glue_type r i) (length r.types)) ≡ true
  mate_exists : all_below (length r.types) (λ ty. nat_lt (mate r ty) (length r.types)) ≡ true
  some_part : all_below (length r.types) (λ ty. nat_le 1 (length (parts r ty))) ≡ true
  at_most_8_parts : all_below (length r.types) (λ ty. nat_le (length (parts r ty)) 8) ≡ true
  part_exists : all_below (length r.types) (λ ty. all_below (length (parts r ty)) (λ i. nat_lt (get_or (parts r ty) i 0) (length r.types))) ≡ true
  at_least_3_edges : all_below (length r.kinds) (λ k. nat_le 3 (edge_count r k)) ≡ true
  at_most_12_edges : all_below (length r.kinds) (λ k. nat_le (edge_count r k) 12) ≡ true
  vertex_each : all_below (length r.kinds) (λ k. nat_eq (length (vertices_of r k)) (edge_count r k)) ≡ true
  type_exists : all_below (length r.kinds) (λ k. all_below (edge_count r k) (λ e. nat_lt (edge_type r k e) (length r.types))) ≡ true
  some_child : all_below (length r.kinds) (λ k. nat_le 1 (length (children_of r k))) ≡ true
  at_most_16_children : all_below (length r.kinds) (λ k. nat_le (length (children_of r k)) 16) ≡ true
  child_exists : all_below (length r.kinds) (λ k. all_below (length (children_of r k)) (λ c. nat_lt (child_of P r k c).kind (length r.kinds))) ≡ true
  turn_below : all_below (length r.kinds) (λ k. all_below (length (children_of r k)) (λ c. nat_lt (child_of P r k c).motion.turn P.order)) ≡ true

-- a test that passes below a number, and below a number for each
pub below_each : (n : ℕ) (m : ℕ → ℕ) (p : ℕ → ℕ → Bool) → all_below n (λ k. all_below (m k) (p k)) ≡ true → (k i : ℕ) → k < n → i < m k → p k i ≡ true
below_each n m p h k i l j = all_below-at (m k) (p k) (all_below-at n (λ k. all_below (m k) (p k)) h k l) i j

numbers_exist : (P : Points) (r : Rule P.ring.carrier) → HasNumbers P r → IsNumbered P r
numbers_exist P r t = record {
  some_kind = leb-true _ _ t.some_kind;
  at_most_16_kinds = leb-true _ _ t.at_most_16_kinds;
  some_type = leb-true _ _ t.some_type;
  at_most_32_types = leb-true _ _ t.at_most_32_types;
  at_most_16_glue_types = leb-true _ _ t.at_most_16_glue_types;
  glue_exists = λ i l. ltb-true _ _ (all_below-at _ (λ i. nat_lt (glue_type r i) (length r.types)) t.glue_exists i l);
  mate_exists = λ ty l. ltb-true _ _ (all_below-at _ (λ ty. nat_lt (mate r ty) (length r.types)) t.mate_exists ty l);
  some_part = λ ty l. leb-true _ _ (all_below-at _ (λ ty. nat_le 1 (length (parts r ty))) t.some_part ty l);
  at_most_8_parts = λ ty l. leb-true _ _ (all_below-at _ (λ ty. nat_le (length (parts r ty)) 8) t.at_most_8_parts ty l);
  part_exists = λ ty i l m. ltb-true _ _ (below_each _ (λ ty. length (parts r ty))
      (λ ty i. nat_lt (get_or (parts r ty) i 0) (length r.types)) t.part_exists ty i l m);
  at_least_3_edges = λ k l. leb-true _ _ (all_below-at _ (λ k. nat_le 3 (edge_count r k)) t.at_least_3_edges k l);
  at_most_12_edges = λ k l. leb-true _ _ (all_below-at _ (λ k. nat_le (edge_count r k) 12) t.at_most_12_edges k l);
  vertex_each = λ k l. eqb-true _ _ (all_below-at _ (λ k. nat_eq (length (vertices_of r k)) (edge_count r k)) t.vertex_each k l);
  type_exists = λ k e l m. ltb-true _ _ (below_each _ (edge_count r) (λ k e. nat_lt (edge_type r k e) (length r.types)) t.type_exists k e l m);
  some_child = λ k l. leb-true _ _ (all_below-at _ (λ k. nat_le 1 (length (children_of r k))) t.some_child k l);
  at_most_16_children = λ k l. leb-true _ _ (all_below-at _ (λ k. nat_le (length (children_of r k)) 16) t.at_most_16_children k l);
  child_exists = λ k c l m. ltb-true _ _ (below_each _ (λ k. length (children_of r k))
      (λ k c. nat_lt (child_of P r k c).kind (length r.kinds)) t.child_exists k c l m);
  turn_below = λ k c l m. ltb-true _ _ (below_each _ (λ k. length (children_of r k))
      (λ k c. nat_lt (child_of P r k c).motion.turn P.order) t.turn_below k c l m);
}

has_numbers : (name : Name) → HasNumbers (points_of (named name).order) (tiling_listed (named name)).rule
has_numbers Chair = record {
  some_kind = refl;
  at_most_16_kinds = refl;
  some_type = refl;
  at_most_32_types = refl;
  at_most_16_glue_types = refl;
  glue_exists = refl;
  mate_exists = refl;
  some_part = refl;
  at_most_8_parts = refl;
  part_exists = refl;
  at_least_3_edges = refl;
  at_most_12_edges = refl;
  vertex_each = refl;
  type_exists = refl;
  some_child = refl;
  at_most_16_children = refl;
  child_exists = refl;
  turn_below = refl;
}
has_numbers P2 = record {
  some_kind = refl;
  at_most_16_kinds = refl;
  some_type = refl;
  at_most_32_types = refl;
  at_most_16_glue_types = refl;
  glue_exists = refl;
  mate_exists = refl;
  some_part = refl;
  at_most_8_parts = refl;
  part_exists = refl;
  at_least_3_edges = refl;
  at_most_12_edges = refl;
  vertex_each = refl;
  type_exists = refl;
  some_child = refl;
  at_most_16_children = refl;
  child_exists = refl;
  turn_below = refl;
}
has_numbers P3 = record {
  some_kind = refl;
  at_most_16_kinds = refl;
  some_type = refl;
  at_most_32_types = refl;
  at_most_16_glue_types = refl;
  glue_exists = refl;
  mate_exists = refl;
  some_part = refl;
  at_most_8_parts = refl;
  part_exists = refl;
  at_least_3_edges = refl;
  at_most_12_edges = refl;
  vertex_each = refl;
  type_exists = refl;
  some_child = refl;
  at_most_16_children = refl;
  child_exists = refl;
  turn_below = refl;
}
has_numbers AmmannBeenker = record {
  some_kind = refl;
  at_most_16_kinds = refl;
  some_type = refl;
  at_most_32_types = refl;
  at_most_16_glue_types = refl;
  glue_exists = refl;
  mate_exists = refl;
  some_part = refl;
  at_most_8_parts = refl;
  part_exists = refl;
  at_least_3_edges = refl;
  at_most_12_edges = refl;
  vertex_each = refl;
  type_exists = refl;
  some_child = refl;
  at_most_16_children = refl;
  child_exists = refl;
  turn_below = refl;
}
has_numbers HalfHex = record {
  some_kind = refl;
  at_most_16_kinds = refl;
  some_type = refl;
  at_most_32_types = refl;
  at_most_16_glue_types = refl;
  glue_exists = refl;
  mate_exists = refl;
  some_part = refl;
  at_most_8_parts = refl;
  part_exists = refl;
  at_least_3_edges = refl;
  at_most_12_edges = refl;
  vertex_each = refl;
  type_exists = refl;
  some_child = refl;
  at_most_16_children = refl;
  child_exists = refl;
  turn_below = refl;
}

pub numbered : (name : Name) → IsNumbered (points_of (named name).order) (tiling_listed (named name)).rule
numbered name = numbers_exist (points_of (named name).order) (tiling_listed (named name)).rule (has_numbers name)
