-- A rule is accepted where the tests of the ten clauses, which compute, pass.
use Rattle.std.proofs.Common.{◌≡◌, ℕ, Bool, true, false, not, List, [], ◌∷◌, length}
use Rattle.std.specs.Prelude.{is_ok}
use Rattle.std.specs.List.{list_all, AllByRecursion}
use Rattle.std.proofs.lemmas.Bool.{and_parts, not-true}
use Rattle.theory_substitution.specs.Points.{Points}
use Rattle.theory_substitution.specs.Rule.{Rule}
use Rattle.theory_substitution.specs.RuleParts.{mate, vertices_of, edge_count}
use Rattle.theory_addresses.specs.Search.{all_below}
use Rattle.theory_addresses.proofs.CoherenceTests.{all_below-at}
use Rattle.theory_edge_to_edge.specs.Limits.{is_type, kinds_fit, types_fit, glue_fits, parts_fit, edges_fit, vertices_fit, children_fit}
use Rattle.theory_edge_to_edge.specs.Limited.{WithinLimits}
use Rattle.theory_edge_to_edge.specs.Star.{is_star}
use Rattle.theory_edge_to_edge.specs.Edition.{Edition}
use Rattle.theory_edge_to_edge.specs.Factor.{is_inflation_factor}
use Rattle.theory_edge_to_edge.specs.EdgeTypes.{mates_back, is_mirrored, has_length_of_type}
use Rattle.theory_edge_to_edge.specs.Edges.{PlacedEdge, child_edges}
use Rattle.theory_edge_to_edge.specs.Lying.{lie_of, is_loose}
use Rattle.theory_edge_to_edge.specs.Boundary.{parts_of_edge}
use Rattle.theory_edge_to_edge.specs.Uses.{is_used}
use Rattle.theory_edge_to_edge.specs.Glue.{glues_halves}
use Rattle.theory_edge_to_edge.specs.EdgeToEdge.{IsEdgeToEdge}

none : {A : Type 0} (bad : A → Bool) (xs : List A) → list_all (λ x. not (bad x)) xs ≡ true → AllByRecursion (λ x. bad x ≡ false) xs
none bad [] h = tt
none bad (x ∷ xs) h = let both = and_parts (not (bad x)) (list_all (λ x. not (bad x)) xs) h in (not-true (bad x) both.0, none bad xs both.1)

-- the limits, as tests
pub record FitsLimits {A : Type 0} (n : ℕ) (small : A → Bool) (r : Rule A) : Type 0 where
  pub kinds : kinds_fit r ≡ true
  pub types : types_fit r ≡ true
  pub factor : small r.factor ≡ true
  pub glue : glue_fits r ≡ true
  pub mates : all_below (length r.types) (λ ty. is_type r (mate r ty)) ≡ true
  pub parts : all_below (length r.types) (parts_fit r) ≡ true
  pub edges : all_below (length r.kinds) (edges_fit r) ≡ true
  pub vertices : all_below (length r.kinds) (vertices_fit small r) ≡ true
  pub children : all_below (length r.kinds) (children_fit n small r) ≡ true

pub within_limits : {A : Type 0} (n : ℕ) (small : A → Bool) (r : Rule A) → FitsLimits n small r → WithinLimits n small r
within_limits n small r t = record {
  kinds = t.kinds;
  types = t.types;
  factor = t.factor;
  glue = t.glue;
  mates = all_below-at (length r.types) (λ ty. is_type r (mate r ty)) t.mates;
  parts = all_below-at (length r.types) (parts_fit r) t.parts;
  edges = all_below-at (length r.kinds) (edges_fit r) t.edges;
  vertices = all_below-at (length r.kinds) (vertices_fit small r) t.vertices;
  children = all_below-at (length r.kinds) (children_fit n small r) t.children;
}

-- the nine clauses beyond the limits, as tests
pub record PassesTests (P : Points) (edition : Edition) (refused : P.ring.carrier → Bool) (r : Rule P.ring.carrier) : Type 0 where
  pub star_shaped : all_below (length r.kinds) (λ k. is_star P (vertices_of r k)) ≡ true
  pub inflation_factor : is_inflation_factor P edition refused r.factor ≡ true
  pub mates_back : all_below (length r.types) (mates_back r) ≡ true
  pub equal_lengths : all_below (length r.kinds) (λ k. all_below (edge_count r k) (has_length_of_type P r k)) ≡ true
  pub mirrored : all_below (length r.types) (is_mirrored r) ≡ true
  pub none_loose : all_below (length r.kinds)
      (λ k. list_all (λ (s : PlacedEdge P.ring.carrier). not (is_loose (lie_of P r k s))) (child_edges P r k))
      ≡ true
  pub boundary_cut : all_below (length r.kinds) (λ k. all_below (edge_count r k) (λ e. is_ok (parts_of_edge P r k e))) ≡ true
  pub each_used : all_below (length r.kinds) (is_used r) ≡ true
  pub glue_right : all_below (length r.glue) (glues_halves r) ≡ true

pub is_edge_to_edge : (P : Points) (edition : Edition) (refused : P.ring.carrier → Bool)
    (r : Rule P.ring.carrier) → PassesTests P edition refused r → IsEdgeToEdge P edition refused r
is_edge_to_edge P edition refused r t = record {
  star_shaped = all_below-at (length r.kinds) (λ k. is_star P (vertices_of r k)) t.star_shaped;
  inflation_factor = t.inflation_factor;
  mates_back = all_below-at (length r.types) (mates_back r) t.mates_back;
  equal_lengths = λ k e l m. all_below-at (edge_count r k) (has_length_of_type P r k)
      (all_below-at (length r.kinds) (λ k. all_below (edge_count r k) (has_length_of_type P r k))
      t.equal_lengths k l) e m;
  mirrored = all_below-at (length r.types) (is_mirrored r) t.mirrored;
  none_loose = λ k l. none (λ (s : PlacedEdge P.ring.carrier). is_loose (lie_of P r k s)) (child_edges P r k)
      (all_below-at (length r.kinds) (λ k. list_all
      (λ (s : PlacedEdge P.ring.carrier). not (is_loose (lie_of P r k s))) (child_edges P r k))
      t.none_loose k l);
  boundary_cut = λ k e l m. all_below-at (edge_count r k) (λ e. is_ok (parts_of_edge P r k e))
      (all_below-at (length r.kinds) (λ k. all_below (edge_count r k) (λ e. is_ok (parts_of_edge P r k e))) t.boundary_cut k l) e m;
  each_used = all_below-at (length r.kinds) (is_used r) t.each_used;
  glue_right = all_below-at (length r.glue) (glues_halves r) t.glue_right;
}
