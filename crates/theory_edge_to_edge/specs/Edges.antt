-- Directed edges, those of an inflated prototile, and those of its children.
use Rattle.std.specs.Prelude.{ℕ, Bool, not, ◌&&◌, List, length, nat_eq}
use Rattle.std.specs.List.{flat_map}
use Rattle.theory_plane.specs.Segment.{along}
use Rattle.theory_substitution.specs.Points.{Points}
use Rattle.theory_substitution.specs.Plane.{plane_point}
use Rattle.theory_substitution.specs.Motion.{Motion, moved}
use Rattle.theory_substitution.specs.Rule.{Rule, children_of}
use Rattle.theory_substitution.specs.RuleParts.{edge_count, edge_type, next, vertex, child_of}
use Rattle.theory_addresses.specs.Search.{below}

-- a directed edge
pub record Edge (A : Type 0) : Type 0 where
  pub from : A
  pub to : A

-- edge number `edge` of child number `child`: its type, and where it lies in the parent's inflated prototile
pub record PlacedEdge (A : Type 0) : Type 0 where
  pub child : ℕ
  pub edge : ℕ
  pub type : ℕ
  pub line : Edge A

-- edge number e of kind k, inflated: from λ times its start to λ times its end
abbrev pub inflated_edge : (P : Points) → Rule P.ring.carrier → ℕ → ℕ → Edge P.ring.carrier
inflated_edge P r k e = record {
  from = P.ring.mul (vertex P r k e) r.factor;
  to = P.ring.mul (vertex P r k (next r k e)) r.factor;
}

-- the edges of the inflated prototile of kind k
abbrev pub inflated_edges : (P : Points) → Rule P.ring.carrier → ℕ → List (Edge P.ring.carrier)
inflated_edges P r k = below (inflated_edge P r k) (edge_count r k)

-- edge number e of a prototile, moved
abbrev pub moved_edge : (P : Points) → Rule P.ring.carrier → ℕ → Motion P.ring.carrier → ℕ
    → Edge P.ring.carrier
moved_edge P r kind m e = record {
  from = moved P m (vertex P r kind e);
  to = moved P m (vertex P r kind (next r kind e));
}

-- edge number e of child number c of kind k
abbrev pub child_edge : (P : Points) → Rule P.ring.carrier → ℕ → ℕ → ℕ → PlacedEdge P.ring.carrier
child_edge P r k c e =
    let child = child_of P r k c in
    record {
      child = c;
      edge = e;
      type = edge_type r child.kind e;
      line = moved_edge P r child.kind child.motion e;
    }

-- the edges of child number c, and those of all children of kind k in order of child and edge
abbrev pub edges_of_child : (P : Points) → Rule P.ring.carrier → ℕ → ℕ → List (PlacedEdge P.ring.carrier)
edges_of_child P r k c = below (child_edge P r k c) (edge_count r (child_of P r k c).kind)

abbrev pub child_edges : (P : Points) → Rule P.ring.carrier → ℕ → List (PlacedEdge P.ring.carrier)
child_edges P r k = flat_map (edges_of_child P r k) (below (λ c. c) (length (children_of r k)))

-- f runs from the end of e to its start
abbrev pub runs_back : (P : Points) → Edge P.ring.carrier → Edge P.ring.carrier → Bool
runs_back P e f = P.same f.from e.to && P.same f.to e.from

-- t is another child edge than s, opposite to it: it runs from its end to its start
abbrev pub is_opposite : (P : Points) → PlacedEdge P.ring.carrier → PlacedEdge P.ring.carrier → Bool
is_opposite P s t = not (nat_eq s.child t.child && nat_eq s.edge t.edge) && runs_back P s.line t.line

-- the edge lies along the whole: its two ends differ, its end is on the whole, and its start between the
-- start of the whole and its end
abbrev pub lies_along : (P : Points) → Edge P.ring.carrier → Edge P.ring.carrier → Bool
lies_along P whole e =
    along P.real (plane_point P whole.from) (plane_point P whole.to) (plane_point P e.from)
    (plane_point P e.to)
