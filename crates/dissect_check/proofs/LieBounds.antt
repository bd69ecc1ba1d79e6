-- A child edge on the boundary lies along an edge that its parent has.
use Rattle.std.proofs.Common.{◌≡◌, ℕ, suc, ◌+◌, ◌<◌, Bool, true, false, cond, List, [], ◌∷◌, ◌++◌, map, length, get_or, nat_eq, refl, subst, arith}
use Rattle.std.specs.List.{All, filter}
use Rattle.std.proofs.lemmas.List.{get_or-map, length-map}
use Rattle.std.proofs.lemmas.List.Elements.{All-map, All-same}
use Rattle.theory_substitution.specs.Points.{Points}
use Rattle.theory_substitution.specs.Rule.{Rule}
use Rattle.theory_substitution.specs.RuleParts.{edge_count, mate}
use Rattle.theory_edge_to_edge.specs.Edges.{Edge, PlacedEdge, inflated_edge, inflated_edges, child_edges, is_opposite, lies_along}
use Rattle.theory_edge_to_edge.specs.Lying.{numbers_along, lie_by, lie_of, met_by}
use Rattle.theory_edge_to_edge.specs.Lying as theory
use Rattle.cyclo_points.specs.Order.{points_of}
use Rattle.rule_model.specs.declared.rule.Rule.{Rule as ProgramRule}
use Rattle.rule_model.specs.Views.{rule_of}
use Rattle.dissect_check.specs.declared.lie.Lie.{Lie}
use Rattle.dissect_check.specs.declared.lie.Lie.TheVariants.{Inner, Boundary, Loose}
use Rattle.dissect_check.specs.declared.inflated.Inflated.{Inflated}
use Rattle.dissect_check.specs.Views.{as_lie, IsInflated}
use Rattle.dissect_check.specs.Parts.{LiesBelow}
use Rattle.theory_addresses.proofs.Ranges.{length-below}

-- the same of a lie of the theory
abbrev IsLieBelow : ℕ → theory.Lie → Type 0
IsLieBelow n (theory.inner c e) = Unit {0}
IsLieBelow n (theory.boundary e) = e < n
IsLieBelow n theory.loose = Unit {0}

first_below : (P : Points) (n : ℕ) (wholes : List (Edge P.ring.carrier)) (e : Edge P.ring.carrier) (x : ℕ)
    (xs : List ℕ) → numbers_along P n wholes e ≡ x ∷ xs → x < n + length wholes
first_below P n [] e x xs h = absurd (cc)
first_below P n (w ∷ ws) e x xs h = by_test (lies_along P w e) h (first_below P (suc n) ws e x xs)
  where
    by_test : (b : Bool) → cond b (n ∷ []) [] ++ numbers_along P (suc n) ws e ≡ x ∷ xs
        → (numbers_along P (suc n) ws e ≡ x ∷ xs → x < suc n + length ws) → x < n + suc (length ws)
    by_test true g later = let same : n ≡ x = cc in omega arith
    by_test false g later = let l = later g in omega arith

lie_by-below : {A : Type 0} (r : Rule A) (s : PlacedEdge A) (n : ℕ) (ts : List (PlacedEdge A))
    (numbers : List ℕ) → ((x : ℕ) (xs : List ℕ) → numbers ≡ x ∷ xs → x < n)
    → IsLieBelow n (lie_by r s ts numbers)
lie_by-below r s n [] [] h = tt
lie_by-below r s n [] (e ∷ []) h = h e [] refl
lie_by-below r s n [] (e ∷ (f ∷ es)) h = tt
lie_by-below r s n (t ∷ []) numbers h = by_mate (nat_eq (mate r s.type) t.type)
  where
    by_mate : (b : Bool) → IsLieBelow n (met_by b t)
    by_mate true = tt
    by_mate false = tt
lie_by-below r s n (t ∷ (u ∷ ts)) numbers h = tt

lie_of-below : (P : Points) (r : Rule P.ring.carrier) (k : ℕ) (s : PlacedEdge P.ring.carrier) → IsLieBelow (edge_count r k) (lie_of P r k s)
lie_of-below P r k s =
    lie_by-below r s (edge_count r k) (filter (is_opposite P s) (child_edges P r k)) (numbers_along P 0 (inflated_edges P r k) s.line)
    (λ x xs h. let l = first_below P 0 (inflated_edges P r k) s.line x xs h in omega (arith, length-below (inflated_edge P r k) (edge_count r k)))

as_lie-below : (n : ℕ) (l : Lie) → IsLieBelow n (as_lie l) → LiesBelow n l
as_lie-below n (Inner c e) h = tt
as_lie-below n (Boundary e) h = h
as_lie-below n Loose h = tt

-- each lie of an inflated prototile
pub lies_below : (r : ProgramRule) (k : ℕ) (i : Inflated) → IsInflated r k i → All (LiesBelow (edge_count (rule_of r) k)) i.lies.items
lies_below r k i fact n d l =
    let m = edge_count (rule_of r) k in
    let those = All-map (IsLieBelow m) (lie_of (points_of r.order) (rule_of r) k)
    (child_edges (points_of r.order) (rule_of r) k)
    (λ j s q. lie_of-below (points_of r.order) (rule_of r) k
    (get_or (child_edges (points_of r.order) (rule_of r) k) j s)) in
    let these = All-same (IsLieBelow m) (map as_lie i.lies.items)
    (map (lie_of (points_of r.order) (rule_of r) k) (child_edges (points_of r.order) (rule_of r) k))
    fact.lies those in
    let there : n < length (map as_lie i.lies.items) = omega (arith, length-map i.lies.items as_lie) in
    as_lie-below m (get_or i.lies.items n d) (subst (IsLieBelow m) (get_or-map as_lie i.lies.items n d (as_lie d) l) (these n (as_lie d) there))
