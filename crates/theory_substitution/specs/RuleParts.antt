-- The parts of a rule by their numbers. Beyond the last, numbers are 0 and lists empty.
use Rattle.std.specs.Prelude.{ℕ, suc, pos, List, [], length, get_or, map, nat_lt, cond}
use Rattle.theory_substitution.specs.Points.{Points}
use Rattle.theory_substitution.specs.Motion.{still}
use Rattle.theory_substitution.specs.Rule.{Child, EdgeType, Kind, Rule, kind_of, children_of}

abbrev pub edge_type_of : {A : Type 0} → Rule A → ℕ → EdgeType
edge_type_of r ty = get_or r.types ty (record { mate = 0; parts = [] })

-- the type of the same edge traversed backwards
abbrev pub mate : {A : Type 0} → Rule A → ℕ → ℕ
mate r ty = (edge_type_of r ty).mate

-- the subdivision of a type: the types, in order, into which the inflated edge is cut
abbrev pub parts : {A : Type 0} → Rule A → ℕ → List ℕ
parts r ty = (edge_type_of r ty).parts

abbrev pub vertices_of : {A : Type 0} → Rule A → ℕ → List A
vertices_of r k = (kind_of r k).vertices

-- the types of a kind's edges
abbrev pub edge_types : {A : Type 0} → Rule A → ℕ → List ℕ
edge_types r k = (kind_of r k).edges

abbrev pub edge_count : {A : Type 0} → Rule A → ℕ → ℕ
edge_count r k = length (edge_types r k)

abbrev pub edge_type : {A : Type 0} → Rule A → ℕ → ℕ → ℕ
edge_type r k e = get_or (edge_types r k) e 0

-- the vertex at which edge number e ends: the next one, and the first after the last
abbrev pub next : {A : Type 0} → Rule A → ℕ → ℕ → ℕ
next r k e = cond (nat_lt (suc e) (edge_count r k)) (suc e) 0

-- vertex number i of a prototile
abbrev pub vertex : (P : Points) → Rule P.ring.carrier → ℕ → ℕ → P.ring.carrier
vertex P r k i = get_or (vertices_of r k) i (P.ring.int (pos 0))

-- child number c of a kind
abbrev pub child_of : (P : Points) → Rule P.ring.carrier → ℕ → ℕ → Child P.ring.carrier
child_of P r k c = get_or (children_of r k) c (record { kind = 0; motion = still P })

-- the rule with each point replaced
abbrev pub map_child : {A B : Type 0} → (A → B) → Child A → Child B
map_child f c = record { kind = c.kind; motion = record { turn = c.motion.turn; shift = f c.motion.shift } }

abbrev pub map_kind : {A B : Type 0} → (A → B) → Kind A → Kind B
map_kind f k = record {
  vertices = map f k.vertices;
  edges = k.edges;
  children = map (map_child f) k.children;
}

abbrev pub map_rule : {A B : Type 0} → (A → B) → Rule A → Rule B
map_rule f r = record {
  factor = f r.factor;
  glue = r.glue;
  types = r.types;
  kinds = map (map_kind f) r.kinds;
}
