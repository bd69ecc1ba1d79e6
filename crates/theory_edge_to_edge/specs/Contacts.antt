-- The contact tables of a rule, as its geometry gives them.
use Rattle.std.specs.Prelude.{ℕ, suc, ◌&&◌, List, [], ◌∷◌, map, length, nat_eq, cond, Result, Ok, Err}
use Rattle.theory_substitution.specs.Points.{Points}
use Rattle.theory_substitution.specs.Rule.{Rule, children_of}
use Rattle.theory_substitution.specs.RuleParts.{edge_types, edge_count}
use Rattle.theory_addresses.specs.Search.{below}
use Rattle.theory_edge_to_edge.specs.Edges.{PlacedEdge, edges_of_child}
use Rattle.theory_edge_to_edge.specs.Lying.{Lie, lie_of}
use Rattle.theory_edge_to_edge.specs.Lying as lying
use Rattle.theory_edge_to_edge.specs.Boundary.{parts_of_edge}
use Rattle.theory_addresses.specs.Contact.{Contact, ChildEdge, inner, outer}
use Rattle.theory_addresses.specs.Tables.{Tables, KindTables}

abbrev pub edge_name : {A : Type 0} → PlacedEdge A → ChildEdge
edge_name s = record { child = s.child; edge = s.edge }

-- the parts, if none fails
abbrev pub parts_or_none : {A : Type 0} → Result (List A) ℕ → List A
parts_or_none (Ok ss) = ss
parts_or_none (Err j) = []

-- the names of the child edges that are the parts of edge number e of kind k, in order
abbrev pub named_parts : (P : Points) → Rule P.ring.carrier → ℕ → ℕ → List ChildEdge
named_parts P r k e = map edge_name (parts_or_none (parts_of_edge P r k e))

-- the number, from n, of a child edge in a list
abbrev pub index_in : ChildEdge → ℕ → List ChildEdge → ℕ
index_in s n [] = n
index_in s n (t ∷ ts) = cond (nat_eq s.child t.child && nat_eq s.edge t.edge) n (index_in s (suc n) ts)

-- what a child edge is, by where it lies; a loose one, which an accepted rule does not have, gets a contact
-- without meaning
abbrev pub contact_by : (P : Points) → Rule P.ring.carrier → ℕ → ChildEdge → Lie → Contact
contact_by P r k s (lying.inner c e) = inner c e
contact_by P r k s (lying.boundary e) = outer e (index_in s 0 (named_parts P r k e))
contact_by P r k s lying.loose = outer 0 0

-- what the edges of child number c of kind k are, in order
abbrev pub contacts_of_child : (P : Points) → Rule P.ring.carrier → ℕ → ℕ → List Contact
contacts_of_child P r k c =
    map (λ s. contact_by P r k (edge_name s) (lie_of P r k s)) (edges_of_child P r k c)

abbrev pub tables_of_kind : (P : Points) → Rule P.ring.carrier → ℕ → KindTables
tables_of_kind P r k = record {
  types = edge_types r k;
  children = map (λ c. c.kind) (children_of r k);
  contacts = below (contacts_of_child P r k) (length (children_of r k));
  parts = below (named_parts P r k) (edge_count r k);
}

-- the contact tables of a rule
abbrev pub tables_of : (P : Points) → Rule P.ring.carrier → Tables
tables_of P r = record {
  mates = map (λ t. t.mate) r.types;
  subs = map (λ t. t.parts) r.types;
  kinds = below (tables_of_kind P r) (length r.kinds);
}
