-- Where the edges of children lie: against each other, or along the edges of the inflated prototile.
use Rattle.std.specs.Prelude.{ℕ, suc, Bool, true, false, List, [], ◌∷◌, ◌++◌, nat_eq, cond}
use Rattle.std.specs.List.{filter}
use Rattle.theory_substitution.specs.Points.{Points}
use Rattle.theory_substitution.specs.Rule.{Rule}
use Rattle.theory_substitution.specs.RuleParts.{mate}
use Rattle.theory_edge_to_edge.specs.Edges.{Edge, PlacedEdge, inflated_edges, child_edges, is_opposite, lies_along}

-- a child edge is inner, met by edge `edge` of child `child`; or on the boundary, along edge `edge` of the
-- parent; or loose
pub data Lie : Type 0 where
  inner : (child edge : ℕ) → Lie
  boundary : (edge : ℕ) → Lie
  loose : Lie

-- the numbers, from n, of the edges along which e lies
abbrev pub numbers_along : (P : Points) → ℕ → List (Edge P.ring.carrier) → Edge P.ring.carrier → List ℕ
numbers_along P n [] e = []
numbers_along P n (whole ∷ wholes) e = cond (lies_along P whole e) (n ∷ []) []
    ++ numbers_along P (suc n) wholes e

-- met by t, if the types are mates
abbrev pub met_by : {A : Type 0} → Bool → PlacedEdge A → Lie
met_by true t = inner t.child t.edge
met_by false t = loose

-- Where a child edge lies, by the other child edges that run from its end to its start and the numbers of the
-- edges along which it lies. It is inner if exactly one runs back and the two types are mates. It is on the
-- boundary if none does and it lies along exactly one edge. Otherwise it is loose.
abbrev pub lie_by : {A : Type 0} → Rule A → PlacedEdge A → List (PlacedEdge A) → List ℕ → Lie
lie_by r s (t ∷ []) numbers = met_by (nat_eq (mate r s.type) t.type) t
lie_by r s [] (e ∷ []) = boundary e
lie_by r s [] [] = loose
lie_by r s [] (e ∷ (f ∷ es)) = loose
lie_by r s (t ∷ (u ∷ ts)) numbers = loose

-- among these child edges, and these inflated edges
abbrev pub lie_among : (P : Points) → Rule P.ring.carrier → List (PlacedEdge P.ring.carrier)
    → List (Edge P.ring.carrier) → PlacedEdge P.ring.carrier → Lie
lie_among P r edges wholes s = lie_by r s (filter (is_opposite P s) edges) (numbers_along P 0 wholes s.line)

-- where a child edge of kind k lies
abbrev pub lie_of : (P : Points) → Rule P.ring.carrier → ℕ → PlacedEdge P.ring.carrier → Lie
lie_of P r k s = lie_among P r (child_edges P r k) (inflated_edges P r k) s

abbrev pub is_loose : Lie → Bool
is_loose (inner c e) = false
is_loose (boundary e) = false
is_loose loose = true

-- on the boundary, along edge number e
abbrev pub is_along : ℕ → Lie → Bool
is_along e (inner c f) = false
is_along e (boundary f) = nat_eq e f
is_along e loose = false
