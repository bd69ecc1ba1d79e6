-- The boundary of an inflated prototile: each of its edges is cut into its parts by child edges, in order.
use Rattle.std.specs.Prelude.{ℕ, suc, true, false, ◌&&◌, List, [], ◌∷◌, length, nat_eq, Result, Ok, Err}
use Rattle.std.specs.List.{filter}
use Rattle.theory_substitution.specs.Points.{Points}
use Rattle.theory_substitution.specs.Rule.{Rule}
use Rattle.theory_substitution.specs.RuleParts.{parts, edge_type}
use Rattle.theory_edge_to_edge.specs.Edges.{Edge, PlacedEdge, inflated_edge, inflated_edges, child_edges}
use Rattle.theory_edge_to_edge.specs.Lying.{lie_among, is_along}

-- those of the child edges that are on the boundary, along edge number e of the wholes
abbrev pub boundary_among : (P : Points) → Rule P.ring.carrier → List (PlacedEdge P.ring.carrier)
    → List (Edge P.ring.carrier) → ℕ → List (PlacedEdge P.ring.carrier)
boundary_among P r edges wholes e = filter (λ s. is_along e (lie_among P r edges wholes s)) edges

-- one more part in front of those that follow, if none of these fails
abbrev pub in_front : {A : Type 0} → A → Result (List A) ℕ → Result (List A) ℕ
in_front s (Ok ss) = Ok (s ∷ ss)
in_front s (Err j) = Err j

-- Part number j and those after it, of these types, from the point p on. Exactly one of the boundary edges
-- `on` begins at p, it has the first type, and the next part begins at its end. The last part ends at the end
-- of the whole, and there are no other boundary edges than the parts. The value is the parts in order, or the
-- number of the first that fails. If they are too few, it is the number of all parts.
abbrev pub parts_from : (P : Points) → List (PlacedEdge P.ring.carrier) → P.ring.carrier → ℕ → List ℕ → ℕ
    → P.ring.carrier → Result (List (PlacedEdge P.ring.carrier)) ℕ
parts_from P on end count [] j p =
    elim (P.same p end && nat_eq (length on) count) [ true ↦ Ok [] | false ↦ Err j ]
parts_from P on end count (ty ∷ types) j p =
    elim (filter (λ (s : PlacedEdge P.ring.carrier). P.same s.line.from p) on) [
      | [] ↦ Err j
      | s ∷ ss ↦ elim ss [
        | [] ↦ elim (nat_eq s.type ty)
            [ true ↦ in_front s (parts_from P on end count types (suc j) s.line.to) | false ↦ Err j ]
        | t ∷ ts ↦
            Err j
      ]
    ]

-- the parts of a whole that is cut into these types
abbrev pub parts_along : (P : Points) → List (PlacedEdge P.ring.carrier) → Edge P.ring.carrier → List ℕ
    → Result (List (PlacedEdge P.ring.carrier)) ℕ
parts_along P on whole types = parts_from P on whole.to (length types) types 0 whole.from

-- the child edges that are the parts of edge number e of kind k, or the first part that fails
abbrev pub parts_of_edge : (P : Points) → Rule P.ring.carrier → ℕ → ℕ
    → Result (List (PlacedEdge P.ring.carrier)) ℕ
parts_of_edge P r k e =
    parts_along P (boundary_among P r (child_edges P r k) (inflated_edges P r k) e) (inflated_edge P r k e)
    (parts r (edge_type r k e))
