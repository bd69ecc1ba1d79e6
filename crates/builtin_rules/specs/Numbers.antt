-- The numbers of a rule as the program holds them, with their lists as references. A reference of a running
-- program has a place, and one of a constant has none, so each type is given for any R that stands for
-- references.
use Rattle.std.specs.Prelude.{ℕ, List, map}
use Rattle.std.specs.Borrow.{Bor}
use Rattle.cyclo_points.specs.declared.point.Point.{Point}
use Rattle.edge_tables.specs.declared.child_edge.ChildEdge.{ChildEdge}
use Rattle.edge_tables.specs.declared.contact.Contact.{Contact}
use Rattle.rule_model.specs.declared.child.Child.{Child}
use Rattle.builtin_rules.specs.declared.kind_numbers.KindNumbers.{KindNumbers}
use Rattle.builtin_rules.specs.declared.rule_numbers.RuleNumbers.{RuleNumbers}
use Rattle.builtin_rules.specs.declared.type_numbers.TypeNumbers.{TypeNumbers}

-- the numbers of an edge type, of a kind, and of a rule
abbrev pub TypeBy : (Type 0 → Type 0) → Type 0
TypeBy R = TypeNumbers (R (List ℕ))

abbrev pub KindBy : (Type 0 → Type 0) → Type 0
KindBy R = KindNumbers (R (List Point)) (R (List ℕ)) (R (List Child)) (R (List (R (List Contact))))
    (R (List (R (List ChildEdge))))

abbrev pub RuleBy : (Type 0 → Type 0) → Type 0
RuleBy R = RuleNumbers (R (List ℕ)) (R (List (TypeBy R))) (R (List (KindBy R)))

-- a reference of a constant: what it refers to, and no place
abbrev pub Fixed : Type 0 → Type 0
Fixed A = record { now : A }

abbrev pub fixed : {A : Type 0} → Bor A → Fixed A
fixed r = record { now = r.now }

-- the numbers of a running program as a constant has them
abbrev pub fixed_type : TypeBy Bor → TypeBy Fixed
fixed_type t = record { mate = t.mate; parts = fixed t.parts }

abbrev pub fixed_kind : KindBy Bor → KindBy Fixed
fixed_kind k = record {
  vertices = fixed k.vertices;
  edges = fixed k.edges;
  children = fixed k.children;
  contacts = record { now = map fixed k.contacts.now };
  parts = record { now = map fixed k.parts.now };
}

abbrev pub fixed_rule : RuleBy Bor → RuleBy Fixed
fixed_rule r = record {
  edition = r.edition;
  order = r.order;
  factor = r.factor;
  glue = fixed r.glue;
  types = record { now = map fixed_type r.types.now };
  kinds = record { now = map fixed_kind r.kinds.now };
}
