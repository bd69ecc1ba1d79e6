-- A rule whose counts are within their limits, and in which each number names something: what the limits say,
-- as facts.
use Rattle.std.specs.Prelude.{◌≡◌, ℕ, ◌<◌, ◌≤◌, length, get_or}
use Rattle.theory_substitution.specs.Points.{Points}
use Rattle.theory_substitution.specs.Rule.{Rule, children_of}
use Rattle.theory_substitution.specs.RuleParts.{mate, parts, vertices_of, edge_count, edge_type, child_of}
use Rattle.theory_edge_to_edge.specs.Glue.{glue_type}

pub record IsNumbered (P : Points) (r : Rule P.ring.carrier) : Type 0 where
  pub some_kind : 1 ≤ length r.kinds
  pub at_most_16_kinds : length r.kinds ≤ 16
  pub some_type : 1 ≤ length r.types
  pub at_most_32_types : length r.types ≤ 32
  pub at_most_16_glue_types : length r.glue ≤ 16
  pub glue_exists : (i : ℕ) → i < length r.glue → glue_type r i < length r.types
  pub mate_exists : (ty : ℕ) → ty < length r.types → mate r ty < length r.types
  pub some_part : (ty : ℕ) → ty < length r.types → 1 ≤ length (parts r ty)
  pub at_most_8_parts : (ty : ℕ) → ty < length r.types → length (parts r ty) ≤ 8
  pub part_exists : (ty i : ℕ) → ty < length r.types → i < length (parts r ty)
      → get_or (parts r ty) i 0 < length r.types
  pub at_least_3_edges : (k : ℕ) → k < length r.kinds → 3 ≤ edge_count r k
  pub at_most_12_edges : (k : ℕ) → k < length r.kinds → edge_count r k ≤ 12
  pub vertex_each : (k : ℕ) → k < length r.kinds → length (vertices_of r k) ≡ edge_count r k
  pub type_exists : (k e : ℕ) → k < length r.kinds → e < edge_count r k → edge_type r k e < length r.types
  pub some_child : (k : ℕ) → k < length r.kinds → 1 ≤ length (children_of r k)
  pub at_most_16_children : (k : ℕ) → k < length r.kinds → length (children_of r k) ≤ 16
  pub child_exists : (k c : ℕ) → k < length r.kinds → c < length (children_of r k)
      → (child_of P r k c).kind < length r.kinds
  pub turn_below : (k c : ℕ) → k < length r.kinds → c < length (children_of r k)
      → (child_of P r k c).motion.turn < P.order
