-- The limits of a rule. They bound its kinds, edge types, glue types, parts, edges and children, and each
-- number in it must name something. They are tests for any record of points, by a test of a point, `small`,
-- and the number n of the order.
use Rattle.std.specs.Prelude.{ℕ, Bool, ◌&&◌, length, nat_le, nat_lt, nat_eq}
use Rattle.std.specs.List.{list_all}
use Rattle.theory_substitution.specs.Rule.{Child, Rule, children_of}
use Rattle.theory_substitution.specs.RuleParts.{parts, vertices_of, edge_types, edge_count}

-- low ≤ n ≤ high
abbrev pub is_from_to : ℕ → ℕ → ℕ → Bool
is_from_to low high n = nat_le low n && nat_le n high

abbrev pub is_type : {A : Type 0} → Rule A → ℕ → Bool
is_type r ty = nat_lt ty (length r.types)

-- a kind that exists, a turn below n, and a small shift
abbrev pub is_child : {A : Type 0} → ℕ → (A → Bool) → Rule A → Child A → Bool
is_child n small r c = nat_lt c.kind (length r.kinds) && nat_lt c.motion.turn n && small c.motion.shift

-- 1 to 16 kinds
abbrev pub kinds_fit : {A : Type 0} → Rule A → Bool
kinds_fit r = is_from_to 1 16 (length r.kinds)

-- 1 to 32 edge types
abbrev pub types_fit : {A : Type 0} → Rule A → Bool
types_fit r = is_from_to 1 32 (length r.types)

-- at most 16 glue types, each an edge type
abbrev pub glue_fits : {A : Type 0} → Rule A → Bool
glue_fits r = nat_le (length r.glue) 16 && list_all (is_type r) r.glue

-- 1 to 8 parts of a type, each an edge type
abbrev pub parts_fit : {A : Type 0} → Rule A → ℕ → Bool
parts_fit r ty = is_from_to 1 8 (length (parts r ty)) && list_all (is_type r) (parts r ty)

-- 3 to 12 edges of a kind, one for each vertex, each of a type
abbrev pub edges_fit : {A : Type 0} → Rule A → ℕ → Bool
edges_fit r k = is_from_to 3 12 (edge_count r k) && nat_eq (length (vertices_of r k)) (edge_count r k)
    && list_all (is_type r) (edge_types r k)

-- small vertices of a kind
abbrev pub vertices_fit : {A : Type 0} → (A → Bool) → Rule A → ℕ → Bool
vertices_fit small r k = list_all small (vertices_of r k)

-- 1 to 16 children of a kind
abbrev pub children_fit : {A : Type 0} → ℕ → (A → Bool) → Rule A → ℕ → Bool
children_fit n small r k = is_from_to 1 16 (length (children_of r k))
    && list_all (is_child n small r) (children_of r k)
