-- The edges of the children of an inflated prototile: each is named by its child and its number, and those that exist are the members of the list.
use Rattle.std.proofs.Common.{◌≡◌, inl, inr, ℕ, ◌<◌, ◌≤◌, true, not, ◌&&◌, [], length, nat_eq, refl, sym, ap, ◌∙◌, subst, arith}
use Rattle.std.proofs.lemmas.Bool.{cases_lt, cases_eq, eq-eqb, ne_eqb, and_parts, and_from}
use Rattle.theory_substitution.specs.Points.{Points, PointLaws}
use Rattle.theory_addresses.specs.Search.{IsAmong, below}
use Rattle.theory_substitution.specs.Rule.{Rule, kind_of, children_of}
use Rattle.theory_substitution.specs.RuleParts.{edge_count, edge_type, child_of}
use Rattle.theory_addresses.specs.Contact.{ChildEdge}
use Rattle.theory_edge_to_edge.specs.Contacts.{edge_name}
use Rattle.theory_edge_to_edge.specs.Edges.{PlacedEdge, child_edge, edges_of_child, child_edges, runs_back, is_opposite}
use Rattle.theory_addresses.proofs.Lists.{IsAmong-flat_map}
use Rattle.theory_addresses.proofs.Ranges.{get_or-past, IsAmong-below, among-flat_map, among-below}

module _ (P : Points) (r : Rule P.ring.carrier) where
  abbrev A : Type 0
  A = P.ring.carrier

  -- kind k has a child number c, and this an edge number e
  pub record HasChildEdge (k c e : ℕ) : Type 0 where
    pub child_below : c < length (children_of r k)
    pub edge_below : e < edge_count r (child_of P r k c).kind

  -- a kind beyond the last has no children and no edges
  pub kind-past : (k : ℕ) → length r.kinds ≤ k → kind_of r k ≡ record { vertices = []; edges = []; children = [] }
  kind-past k h = get_or-past r.kinds k (record { vertices = []; edges = []; children = [] }) h

  pub kind-with_child : (k c : ℕ) → c < length (children_of r k) → k < length r.kinds
  kind-with_child k c h = elim (cases_lt k (length r.kinds)) [
    | inl lt ↦ lt
    | inr ge ↦ let none : length (children_of r k) ≡ 0 = ap (λ kind. length kind.children) (kind-past k ge) in absurd (omega arith)
  ]

  pub kind-with_edge : (k e : ℕ) → e < edge_count r k → k < length r.kinds
  kind-with_edge k e h = elim (cases_lt k (length r.kinds)) [
    | inl lt ↦ lt
    | inr ge ↦ let none : edge_count r k ≡ 0 = ap (λ kind. length kind.edges) (kind-past k ge) in absurd (omega arith)
  ]

  -- ---- which edges are there
  pub child_edge-among : (k c e : ℕ) → HasChildEdge k c e → IsAmong (child_edge P r k c e) (child_edges P r k)
  child_edge-among k c e h =
      IsAmong-flat_map (edges_of_child P r k) c (child_edge P r k c e) (below (λ c. c) (length (children_of r k)))
      (IsAmong-below (λ c. c) (length (children_of r k)) c h.child_below)
      (IsAmong-below (child_edge P r k c) (edge_count r (child_of P r k c).kind) e h.edge_below)

  pub record IsChildEdge (k : ℕ) (s : PlacedEdge A) : Type 0 where
    pub has : HasChildEdge k s.child s.edge
    pub is : s ≡ child_edge P r k s.child s.edge

  child_edge-is : (k c e : ℕ) → HasChildEdge k c e → IsChildEdge k (child_edge P r k c e)
  child_edge-is k c e h = record { has = h; is = refl }

  pub among-child_edges : (k : ℕ) (s : PlacedEdge A) → IsAmong s (child_edges P r k) → IsChildEdge k s
  among-child_edges k s i =
      let piece = among-flat_map (edges_of_child P r k) s (below (λ c. c) (length (children_of r k))) i in
      let child = among-below (λ c. c) (length (children_of r k)) piece.piece piece.among in
      let edge = among-below (child_edge P r k piece.piece) (edge_count r (child_of P r k piece.piece).kind) s piece.inside in
      let small : piece.piece < length (children_of r k) = subst (λ (c : ℕ). c < length (children_of r k)) (sym child.is) child.in_range in
      subst (IsChildEdge k) (sym edge.is) (child_edge-is k piece.piece edge.number (record { child_below = small; edge_below = edge.in_range }))

  -- a name is that of one child edge
  pub one_named : (k : ℕ) (s u : PlacedEdge A) → IsAmong s (child_edges P r k) → IsAmong u (child_edges P r k) → edge_name s ≡ edge_name u → s ≡ u
  one_named k s u i j e =
      let a = among-child_edges k s i in
      let b = among-child_edges k u j in
      a.is ∙ ap (λ (n : ChildEdge). child_edge P r k n.child n.edge) e ∙ sym b.is

  pub type-of_child_edge : (k : ℕ) (s : PlacedEdge A) → IsAmong s (child_edges P r k) → s.type ≡ edge_type r (child_of P r k s.child).kind s.edge
  type-of_child_edge k s i = ap (λ (u : PlacedEdge A). u.type) (among-child_edges k s i).is

-- ---- edges that meet
nat_eq-sym : (m n : ℕ) → nat_eq m n ≡ nat_eq n m
nat_eq-sym m n = elim (cases_eq m n) [
  | inl e ↦ eq-eqb m n e ∙ sym (eq-eqb n m (sym e))
  | inr f ↦ ne_eqb m n f ∙ sym (ne_eqb n m (λ e. f (sym e)))
]

same-sym : (P : Points) → PointLaws P → (a b : P.ring.carrier) → P.same a b ≡ true → P.same b a ≡ true
same-sym P W a b h = ap (P.same b) (W.same-is a b h) ∙ W.same_self b

-- what meets is met
pub is_opposite-sym : (P : Points) → PointLaws P → (s t : PlacedEdge P.ring.carrier) → is_opposite P s t ≡ true → is_opposite P t s ≡ true
is_opposite-sym P W s t h =
    let parts = and_parts (not (nat_eq s.child t.child && nat_eq s.edge t.edge)) (runs_back P s.line t.line) h in
    let back = and_parts (P.same t.line.from s.line.to) (P.same t.line.to s.line.from) parts.1 in
    and_from _ _ (ap not (rw (nat_eq-sym t.child s.child, nat_eq-sym t.edge s.edge) refl) ∙ parts.0)
    (and_from _ _ (same-sym P W t.line.to s.line.from back.1) (same-sym P W t.line.from s.line.to back.0))
