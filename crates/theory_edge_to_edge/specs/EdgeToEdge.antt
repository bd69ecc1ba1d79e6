-- What is tested of a rule beyond its limits: its prototiles, its factor, its edge types, and that the
-- children of each inflated prototile fit into it edge to edge. No area is compared, nothing is said of
-- depths beyond one, and the rule may have any points.
use Rattle.std.specs.Prelude.{◌≡◌, ℕ, ◌<◌, Bool, true, false, length, is_ok}
use Rattle.std.specs.List.{AllByRecursion}
use Rattle.theory_substitution.specs.Points.{Points}
use Rattle.theory_substitution.specs.Rule.{Rule}
use Rattle.theory_substitution.specs.RuleParts.{vertices_of, edge_count}
use Rattle.theory_edge_to_edge.specs.Star.{is_star}
use Rattle.theory_edge_to_edge.specs.Edition.{Edition}
use Rattle.theory_edge_to_edge.specs.Factor.{is_inflation_factor}
use Rattle.theory_edge_to_edge.specs.EdgeTypes.{mates_back, is_mirrored, has_length_of_type}
use Rattle.theory_edge_to_edge.specs.Edges.{child_edges}
use Rattle.theory_edge_to_edge.specs.Lying.{lie_of, is_loose}
use Rattle.theory_edge_to_edge.specs.Boundary.{parts_of_edge}
use Rattle.theory_edge_to_edge.specs.Uses.{is_used}
use Rattle.theory_edge_to_edge.specs.Glue.{glues_halves}

-- each prototile is star-shaped from its vertex 0
abbrev pub IsStarShaped : (P : Points) → Rule P.ring.carrier → Type 0
IsStarShaped P r = (k : ℕ) → k < length r.kinds → is_star P (vertices_of r k) ≡ true

-- the factor is one that the edition takes: real and greater than 1, or of squared length above 1; and
-- supertiles outgrow the limit of coordinates
abbrev pub HasInflationFactor : (P : Points) → Edition → (P.ring.carrier → Bool) → Rule P.ring.carrier
    → Type 0
HasInflationFactor P edition refused r = is_inflation_factor P edition refused r.factor ≡ true

-- the mate's mate of each type is the type
abbrev pub MatesBack : {A : Type 0} → Rule A → Type 0
MatesBack r = (ty : ℕ) → ty < length r.types → mates_back r ty ≡ true

-- edges of one type, or of mates, are equally long
abbrev pub HasEqualLengths : (P : Points) → Rule P.ring.carrier → Type 0
HasEqualLengths P r = (k e : ℕ) → k < length r.kinds → e < edge_count r k → has_length_of_type P r k e ≡ true

-- the subdivisions of mates mirror each other
abbrev pub HasMirroredSubdivisions : {A : Type 0} → Rule A → Type 0
HasMirroredSubdivisions r = (ty : ℕ) → ty < length r.types → is_mirrored r ty ≡ true

-- each child edge is inner or on the boundary
abbrev pub HasNoneLoose : (P : Points) → Rule P.ring.carrier → Type 0
HasNoneLoose P r = (k : ℕ) → k < length r.kinds
    → AllByRecursion (λ s. is_loose (lie_of P r k s) ≡ false) (child_edges P r k)

-- the boundary child edges of each inflated edge are its parts
abbrev pub HasBoundaryCut : (P : Points) → Rule P.ring.carrier → Type 0
HasBoundaryCut P r = (k e : ℕ) → k < length r.kinds → e < edge_count r k
    → is_ok (parts_of_edge P r k e) ≡ true

-- each kind has a use
abbrev pub HasEachUsed : {A : Type 0} → Rule A → Type 0
HasEachUsed r = (k : ℕ) → k < length r.kinds → is_used r k ≡ true

-- each glue type glues two halves
abbrev pub HasRightGlue : {A : Type 0} → Rule A → Type 0
HasRightGlue r = (i : ℕ) → i < length r.glue → glues_halves r i ≡ true

-- the nine clauses beyond the limits
pub record IsEdgeToEdge (P : Points) (edition : Edition) (refused : P.ring.carrier → Bool)
    (r : Rule P.ring.carrier) : Type 0 where
  pub star_shaped : IsStarShaped P r
  pub inflation_factor : HasInflationFactor P edition refused r
  pub mates_back : MatesBack r
  pub equal_lengths : HasEqualLengths P r
  pub mirrored : HasMirroredSubdivisions r
  pub none_loose : HasNoneLoose P r
  pub boundary_cut : HasBoundaryCut P r
  pub each_used : HasEachUsed r
  pub glue_right : HasRightGlue r
