-- Edge types of a rule: their mates, their lengths and their subdivisions.
use Rattle.std.specs.Prelude.{ℕ, Bool, true, not, ◌||◌, map, reverse, length, nat_eq, Option, Some, None}
use Rattle.std.specs.Cmp.Lexicographic.{pointwise}
use Rattle.theory_ring.specs.Ring.{difference}
use Rattle.theory_substitution.specs.Points.{Points}
use Rattle.theory_substitution.specs.Plane.{same_length}
use Rattle.theory_substitution.specs.Rule.{Rule}
use Rattle.theory_substitution.specs.RuleParts.{mate, parts, edge_count, edge_type, next, vertex}
use Rattle.theory_addresses.specs.Search.{unless, first_below}

-- the mate's mate is the type
abbrev pub mates_back : {A : Type 0} → Rule A → ℕ → Bool
mates_back r ty = nat_eq (mate r (mate r ty)) ty

-- the mate's subdivision is the type's, reversed, each replaced by its mate
abbrev pub is_mirrored : {A : Type 0} → Rule A → ℕ → Bool
is_mirrored r ty = pointwise nat_eq (parts r (mate r ty)) (map (mate r) (reverse (parts r ty)))

-- the difference of the ends of edge number e of kind k
abbrev pub edge_vector : (P : Points) → Rule P.ring.carrier → ℕ → ℕ → P.ring.carrier
edge_vector P r k e = difference P.ring (vertex P r k (next r k e)) (vertex P r k e)

-- edge number e of kind k has the type or its mate: then its vector
abbrev pub vector_if : (P : Points) → Rule P.ring.carrier → ℕ → ℕ → ℕ → Option P.ring.carrier
vector_if P r ty k e =
    unless (not (nat_eq (edge_type r k e) ty || nat_eq (edge_type r k e) (mate r ty))) (edge_vector P r k e)

-- the vector of the first edge, in order of kind and edge, that has the type or its mate
abbrev pub first_vector : (P : Points) → Rule P.ring.carrier → ℕ → Option P.ring.carrier
first_vector P r ty = first_below (λ k. first_below (vector_if P r ty k) (edge_count r k)) (length r.kinds)

-- equal squared lengths, if there is a second
abbrev pub is_as_long : (P : Points) → P.ring.carrier → Option P.ring.carrier → Bool
is_as_long P d None = true
is_as_long P d (Some e) = same_length P d e

-- edge number e of kind k has the squared length of the first edge of its type or its mate
abbrev pub has_length_of_type : (P : Points) → Rule P.ring.carrier → ℕ → ℕ → Bool
has_length_of_type P r k e = is_as_long P (edge_vector P r k e) (first_vector P r (edge_type r k e))
