-- Each edge of an inflated prototile is cut into child edges: these are its boundary edges, each once, with the types of the subdivision.
use Rattle.std.proofs.Common.{◌≡◌, inl, inr, ℕ, zero, suc, ◌+◌, ◌<◌, true, false, ◌&&◌, cond, List, [], ◌∷◌, length, map, nat_eq, slice_get, Some, Result, Ok, Err, is_ok, refl, sym, ap, ◌∙◌, subst, eqb-true, arith}
use Rattle.std.specs.List.{AllByRecursion}
use Rattle.std.proofs.lemmas.Bool.{and_parts, and_from, eq-eqb, false_from_ne_true, both_ways}
use Rattle.theory_substitution.specs.Points.{Points, PointLaws}
use Rattle.theory_addresses.specs.Search.{IsAmong}
use Rattle.theory_substitution.specs.Rule.{Rule}
use Rattle.theory_substitution.specs.RuleParts.{parts, edge_count, edge_type}
use Rattle.theory_addresses.specs.Contact.{ChildEdge}
use Rattle.theory_edge_to_edge.specs.Contacts.{edge_name, parts_or_none, named_parts, index_in}
use Rattle.theory_edge_to_edge.specs.Edges.{PlacedEdge, inflated_edge, inflated_edges, child_edges}
use Rattle.theory_edge_to_edge.specs.Lying.{boundary, lie_of, is_along}
use Rattle.theory_edge_to_edge.specs.Boundary.{boundary_among, parts_of_edge}
use Rattle.theory_addresses.proofs.Lists.{AllByRecursion-among, AllByRecursion-from, AllByRecursion-map}
use Rattle.theory_addresses.proofs.Filters.{IsAmong-kept, IsAmong-filter, AreApart}
use Rattle.theory_addresses.proofs.Ranges.{place-among, slice_get-image}
use Rattle.theory_edge_to_edge.proofs.CutParts.{AreParts, Found, parts_from-found, from_of, LeadsAway, AreParts-apart, AreParts-all, AreParts-among}
use Rattle.theory_edge_to_edge.proofs.ChildEdges.{one_named}
use Rattle.theory_edge_to_edge.proofs.LieCases.{is_along-boundary, boundary-is_along, along-leads_away, lie_of-boundary}

-- ---- numbers in a list of names
abbrev pub WithoutRepeats : List ChildEdge → Type 0
WithoutRepeats [] = Unit {0}
WithoutRepeats (t ∷ ts) = AllByRecursion (λ u. t ≡ u → ⊥) ts × WithoutRepeats ts

same_name : (s t : ChildEdge) → nat_eq s.child t.child && nat_eq s.edge t.edge ≡ true → t ≡ s
same_name s t h =
    let both = and_parts (nat_eq s.child t.child) (nat_eq s.edge t.edge) h in
    let go : (a b : ℕ) → a ≡ t.child → b ≡ t.edge → ◌≡◌ {A = ChildEdge} t (record { child = a; edge = b }) = λ a b ha hb. rw (ha, hb) refl in
    go s.child s.edge (eqb-true s.child t.child both.0) (eqb-true s.edge t.edge both.1)

-- a name has the number of the place where it stands
pub number_in-at : (s : ChildEdge) (n j : ℕ) (ts : List ChildEdge) → slice_get ts j ≡ Some s → WithoutRepeats ts → index_in s n ts ≡ n + j
number_in-at s n j [] at alone = absurd cc
number_in-at s n zero (t ∷ ts) at alone =
    let same : t ≡ s = cc in
    let test : nat_eq s.child t.child && nat_eq s.edge t.edge ≡ true =
    subst (λ (u : ChildEdge). nat_eq s.child u.child && nat_eq s.edge u.edge ≡ true) (sym same)
    (and_from _ _ (eq-eqb s.child s.child refl) (eq-eqb s.edge s.edge refl)) in
    ap (λ b. cond b n (index_in s (suc n) ts)) test ∙ omega arith
number_in-at s n (suc j) (t ∷ ts) at alone =
    let other : t ≡ s → ⊥ = AllByRecursion-among (λ u. t ≡ u → ⊥) s ts (place-among s ts j at) alone.0 in
    let test : nat_eq s.child t.child && nat_eq s.edge t.edge ≡ false = false_from_ne_true _ (λ h. other (same_name s t h)) in
    ap (λ b. cond b n (index_in s (suc n) ts)) test ∙ number_in-at s (suc n) j ts at alone.1 ∙ omega arith

is_ok-parts : {A : Type 0} (o : Result (List A) ℕ) → is_ok o ≡ true → o ≡ Ok (parts_or_none o)
is_ok-parts (Ok ss) h = refl
is_ok-parts (Err j) h = absurd cc

-- the parts of edge number e, and the boundary child edges along it
abbrev pub cut_parts : (P : Points) → Rule P.ring.carrier → ℕ → ℕ → List (PlacedEdge P.ring.carrier)
cut_parts P r k e = parts_or_none (parts_of_edge P r k e)

abbrev pub boundary_edges : (P : Points) → Rule P.ring.carrier → ℕ → ℕ → List (PlacedEdge P.ring.carrier)
boundary_edges P r k e = boundary_among P r (child_edges P r k) (inflated_edges P r k) e

module _ (P : Points) (W : PointLaws P) (r : Rule P.ring.carrier) (k : ℕ) where
  abbrev A : Type 0
  A = P.ring.carrier

  pub boundary_edge : (e : ℕ) (s : PlacedEdge A) → IsAmong s (boundary_edges P r k e) → IsAmong s (child_edges P r k) × (lie_of P r k s ≡ boundary e)
  boundary_edge e s i =
      let h = IsAmong-filter (λ u. is_along e (lie_of P r k u)) s (child_edges P r k) i in
      (h.0, is_along-boundary e (lie_of P r k s) h.1)

  pub boundary_edge-among : (e : ℕ) (s : PlacedEdge A) → IsAmong s (child_edges P r k)
      → lie_of P r k s ≡ boundary e → IsAmong s (boundary_edges P r k e)
  boundary_edge-among e s i h = IsAmong-kept (λ u. is_along e (lie_of P r k u)) s (child_edges P r k) i (boundary-is_along e (lie_of P r k s) h)

  pub leads_away : (e : ℕ) (s : PlacedEdge A) → IsAmong s (boundary_edges P r k e) → LeadsAway P (inflated_edge P r k e).from s
  leads_away e s i = along-leads_away P W (inflated_edge P r k e) s (lie_of-boundary P r k s e (boundary_edge e s i).1).along

  module _ (cut : (e : ℕ) → e < edge_count r k → is_ok (parts_of_edge P r k e) ≡ true) where
    pub found : (e : ℕ) → e < edge_count r k
        → Found P (boundary_edges P r k e) (inflated_edge P r k e).to (length (parts r (edge_type r k e)))
        (parts r (edge_type r k e)) (inflated_edge P r k e).from (cut_parts P r k e)
    found e h = parts_from-found P W (boundary_edges P r k e) (inflated_edge P r k e).to
        (length (parts r (edge_type r k e))) (parts r (edge_type r k e)) 0 (inflated_edge P r k e).from
        (cut_parts P r k e)
        (is_ok-parts (parts_of_edge P r k e) (cut e h))

    -- each part is a boundary child edge along the edge
    pub part-on_boundary : (e : ℕ) → e < edge_count r k → (s : PlacedEdge A) → IsAmong s (cut_parts P r k e) → IsAmong s (boundary_edges P r k e)
    part-on_boundary e h s i = AreParts-among P W (inflated_edge P r k e).from (boundary_edges P r k e)
        (leads_away e) (inflated_edge P r k e).to (parts r (edge_type r k e)) (inflated_edge P r k e).from
        (cut_parts P r k e) (found e h).parts s i

    -- and each of these a part
    pub on_boundary-part : (e : ℕ) → e < edge_count r k → (s : PlacedEdge A) → IsAmong s (boundary_edges P r k e) → IsAmong s (cut_parts P r k e)
    on_boundary-part e h s i = AreParts-all P W (inflated_edge P r k e).from (boundary_edges P r k e)
        (leads_away e) (inflated_edge P r k e).to (parts r (edge_type r k e)) (inflated_edge P r k e).from
        (cut_parts P r k e)
        (found e h).parts (found e h).count_is s i

    pub parts-apart : (e : ℕ) → e < edge_count r k → AreApart (from_of P) (cut_parts P r k e)
    parts-apart e h = AreParts-apart P W (inflated_edge P r k e).from (boundary_edges P r k e) (leads_away e)
        (inflated_edge P r k e).to (parts r (edge_type r k e)) (inflated_edge P r k e).from
        (cut_parts P r k e) (found e h).parts

    -- the parts have the types of the subdivision
    pub part-types : (e : ℕ) → e < edge_count r k → map (λ s. s.type) (cut_parts P r k e) ≡ parts r (edge_type r k e)
    part-types e h = of_parts (parts r (edge_type r k e)) (inflated_edge P r k e).from (cut_parts P r k e) (found e h).parts
      where
        of_parts : (types : List ℕ) (p : A) (ss : List (PlacedEdge A))
            → AreParts P (boundary_edges P r k e) (inflated_edge P r k e).to types p ss
            → map (λ s. s.type) ss ≡ types
        of_parts [] p [] a = refl
        of_parts [] p (s ∷ ss) a = absurd a
        of_parts (ty ∷ types) p [] a = absurd a
        of_parts (ty ∷ types) p (s ∷ ss) a = let rest = of_parts types s.line.to ss a.2 in let first = a.1 in rw (first, rest) refl

    -- ---- the names of the parts
    names-differ : (ss : List (PlacedEdge A)) → ((s : PlacedEdge A) → IsAmong s ss
        → IsAmong s (child_edges P r k)) → AreApart (from_of P) ss → WithoutRepeats (map edge_name ss)
    names-differ [] among apart = tt
    names-differ (s ∷ ss) among apart = (
      AllByRecursion-map (λ (n : ChildEdge). edge_name s ≡ n → ⊥) edge_name ss
          (AllByRecursion-from (λ (u : PlacedEdge A). edge_name s ≡ edge_name u → ⊥) ss
          (λ u i e. differs u i (one_named P r k s u (among s (inl refl)) (among u (inr i)) e))),
      names-differ ss (λ u i. among u (inr i)) apart.1,
    )
      where
        differs : (u : PlacedEdge A) → IsAmong u ss → s ≡ u → ⊥
        differs u i e =
            let here : from_of P s u ≡ true = subst (λ (v : PlacedEdge A). from_of P s v ≡ true) e (W.same_self s.line.from) in
            let not_here = AllByRecursion-among (λ (v : PlacedEdge A). (x : PlacedEdge A)
            → from_of P s x ≡ true → from_of P v x ≡ false) u ss i apart.0 u here in
            both_ways (from_of P u u) not_here (W.same_self u.line.from)

    -- a part has the number of its place
    pub part-number : (e p : ℕ) (s : PlacedEdge A) → e < edge_count r k
        → slice_get (cut_parts P r k e) p ≡ Some s → index_in (edge_name s) 0 (named_parts P r k e) ≡ p
    part-number e p s h at =
        number_in-at (edge_name s) 0 p (map edge_name (cut_parts P r k e)) (slice_get-image edge_name s (cut_parts P r k e) p at)
        (names-differ (cut_parts P r k e) (λ u i. (boundary_edge e u (part-on_boundary e h u i)).0) (parts-apart e h)) ∙ omega arith
