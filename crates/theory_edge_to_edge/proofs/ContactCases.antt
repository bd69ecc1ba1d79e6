-- Contacts of child edges, by where they lie: inner ones point back, and outer ones are the parts of the edges.
use Rattle.std.proofs.Common.{◌≡◌, ℕ, ◌<◌, true, false, List, [], ◌∷◌, slice_get, Some, is_ok, refl, sym, ap, ◌∙◌, subst}
use Rattle.std.specs.List.{filter, AllByRecursion}
use Rattle.theory_substitution.specs.Points.{Points, PointLaws}
use Rattle.theory_addresses.specs.Search.{IsAmong}
use Rattle.theory_substitution.specs.Rule.{Rule}
use Rattle.theory_substitution.specs.RuleParts.{mate, edge_count}
use Rattle.theory_addresses.specs.Contact.{ChildEdge, inner, outer}
use Rattle.theory_edge_to_edge.specs.Contacts.{edge_name, named_parts, index_in, contact_by}
use Rattle.theory_edge_to_edge.specs.Edges.{PlacedEdge, inflated_edges, child_edges, is_opposite}
use Rattle.theory_edge_to_edge.specs.Lying.{Lie, numbers_along, lie_of, is_loose}
use Rattle.theory_edge_to_edge.specs.Lying as lying
use Rattle.theory_edge_to_edge.specs.Boundary.{parts_of_edge}
use Rattle.theory_addresses.proofs.Lists.{AllByRecursion-among}
use Rattle.theory_addresses.proofs.Filters.{IsAmong-kept, kept_one}
use Rattle.theory_addresses.proofs.Ranges.{among-place, place-among}
use Rattle.theory_edge_to_edge.proofs.ChildEdges.{is_opposite-sym}
use Rattle.theory_edge_to_edge.proofs.LieCases.{lie_by-inner, lie_by-met, OnBoundary, lie_of-boundary}
use Rattle.theory_edge_to_edge.proofs.CutEdges.{cut_parts, boundary_edge, boundary_edge-among, part-on_boundary, on_boundary-part, part-number}
use Rattle.theory_edge_to_edge.proofs.TablesOf.{contact_at}

module _ (P : Points) (r : Rule P.ring.carrier) (k : ℕ) where
  -- edge f of child b is there, of the mate's type, and inner with s
  pub record PointsBack (s : PlacedEdge P.ring.carrier) (b f : ℕ) : Type 0 where
    pub other : PlacedEdge P.ring.carrier
    pub among : IsAmong other (child_edges P r k)
    pub child : other.child ≡ b
    pub edge : other.edge ≡ f
    pub meets_alone : filter (is_opposite P s) (child_edges P r k) ≡ other ∷ []
    pub mates : mate r s.type ≡ other.type
    pub back : lie_of P r k other ≡ lying.inner s.child s.edge

  -- s is part p of edge e
  pub record IsPart (s : PlacedEdge P.ring.carrier) (e p : ℕ) : Type 0 where
    pub edge_below : e < edge_count r k
    pub at : slice_get (cut_parts P r k e) p ≡ Some s

  -- a child edge is inner with the only one that meets it, or unmet and a part of the only edge along which it lies
  pub data Settled (s : PlacedEdge P.ring.carrier) : Type 0 where
    inside : (b f : ℕ) → lie_of P r k s ≡ lying.inner b f → PointsBack s b f → Settled s
    along : (e p : ℕ) → OnBoundary P r k s e → IsPart s e p → Settled s

module _ (P : Points) (W : PointLaws P) (r : Rule P.ring.carrier) (k : ℕ) where
  abbrev A : Type 0
  A = P.ring.carrier

  abbrev edges : List (PlacedEdge A)
  edges = child_edges P r k

  contact_by-inner : (n : ChildEdge) (l : Lie) (b f : ℕ) → contact_by P r k n l ≡ inner b f → l ≡ lying.inner b f
  contact_by-inner n (lying.inner c e) b f h = cc
  contact_by-inner n (lying.boundary e) b f h = absurd cc
  contact_by-inner n lying.loose b f h = absurd cc

  contact_by-outer : (n : ChildEdge) (l : Lie) (f p : ℕ) → is_loose l ≡ false
      → contact_by P r k n l ≡ outer f p → (l ≡ lying.boundary f) × (index_in n 0 (named_parts P r k f) ≡ p)
  contact_by-outer n (lying.inner c e) f p firm h = absurd cc
  contact_by-outer n (lying.boundary e) f p firm h =
      let same : e ≡ f = cc in
      let number : index_in n 0 (named_parts P r k e) ≡ p = cc in
      (ap lying.boundary same, ap (λ (g : ℕ). index_in n 0 (named_parts P r k g)) (sym same) ∙ number)
  contact_by-outer n lying.loose f p firm h = absurd cc

  module _ (none_loose : AllByRecursion (λ s. is_loose (lie_of P r k s) ≡ false) edges)
      (cut : (e : ℕ) → e < edge_count r k → is_ok (parts_of_edge P r k e) ≡ true) where
    firm : (s : PlacedEdge A) → IsAmong s edges → is_loose (lie_of P r k s) ≡ false
    firm s i = AllByRecursion-among (λ s. is_loose (lie_of P r k s) ≡ false) s edges i none_loose

    -- ---- inner child edges
    pub inner-points_back : (s : PlacedEdge A) (b f : ℕ) → IsAmong s edges → lie_of P r k s ≡ lying.inner b f → PointsBack P r k s b f
    inner-points_back s b f i h =
        let met = lie_by-inner r s (filter (is_opposite P s) edges) (numbers_along P 0 (inflated_edges P r k) s.line) b f h in
        let there = kept_one (is_opposite P s) met.other edges met.only in
        record {
          other = met.other;
          among = there.0;
          child = met.child;
          edge = met.edge;
          meets_alone = met.only;
          mates = met.mates;
          back = lie_by-met r met.other s (filter (is_opposite P met.other) edges)
              (numbers_along P 0 (inflated_edges P r k) met.other.line) (firm met.other there.0)
              (IsAmong-kept (is_opposite P met.other) s edges i (is_opposite-sym P W s met.other there.1));
        }

    -- ---- outer child edges
    -- a child edge on the boundary is the part of its number
    pub boundary-is_part : (s : PlacedEdge A) (e : ℕ) → IsAmong s edges → lie_of P r k s ≡ lying.boundary e
        → IsPart P r k s e (index_in (edge_name s) 0 (named_parts P r k e))
    boundary-is_part s e i h =
        let below = (lie_of-boundary P r k s e h).edge_below in
        let place = among-place s (cut_parts P r k e) (on_boundary-part P W r k cut e below s (boundary_edge-among P W r k e s i h)) in
        record {
          edge_below = below;
          at = subst (λ (p : ℕ). slice_get (cut_parts P r k e) p ≡ Some s)
              (sym (part-number P W r k cut e place.0 s below place.1)) place.1;
        }

    -- each part is a child edge on the boundary, along that edge
    pub part-is_child_edge : (s : PlacedEdge A) (e p : ℕ) → IsPart P r k s e p → IsAmong s edges × (lie_of P r k s ≡ lying.boundary e)
    part-is_child_edge s e p h = boundary_edge P W r k e s (part-on_boundary P W r k cut e h.edge_below s (place-among s (cut_parts P r k e) p h.at))

    -- and is no other part
    pub part-alone : (s : PlacedEdge A) (e p f q : ℕ) → IsPart P r k s e p → IsPart P r k s f q → (e ≡ f) × (p ≡ q)
    part-alone s e p f q h g =
        let same : e ≡ f = let a = (part-is_child_edge s e p h).1 in let b = (part-is_child_edge s f q g).1 in cc in
        let number = part-number P W r k cut e p s h.edge_below h.at in
        let other = part-number P W r k cut f q s g.edge_below g.at in
        (same, sym number ∙ ap (λ (x : ℕ). index_in (edge_name s) 0 (named_parts P r k x)) same ∙ other)

    -- ---- each child edge is the one or the other
    pub settled : (s : PlacedEdge A) → IsAmong s edges → Settled P r k s
    settled s i = at_lie (lie_of P r k s) refl (firm s i)
      where
        at_lie : (l : Lie) → lie_of P r k s ≡ l → is_loose l ≡ false → Settled P r k s
        at_lie (lying.inner b f) h g = inside b f h (inner-points_back s b f i h)
        at_lie (lying.boundary e) h g = along e (index_in (edge_name s) 0 (named_parts P r k e))
            (lie_of-boundary P r k s e h) (boundary-is_part s e i h)
        at_lie lying.loose h g = absurd cc

    -- ---- contacts
    pub contact-inner : (s : PlacedEdge A) (b f : ℕ) → IsAmong s edges → contact_at P r k s ≡ inner b f → PointsBack P r k s b f
    contact-inner s b f i h = inner-points_back s b f i (contact_by-inner (edge_name s) (lie_of P r k s) b f h)

    pub contact-outer : (s : PlacedEdge A) (f p : ℕ) → IsAmong s edges → contact_at P r k s ≡ outer f p → IsPart P r k s f p
    contact-outer s f p i h =
        let by = contact_by-outer (edge_name s) (lie_of P r k s) f p (firm s i) h in
        subst (IsPart P r k s f) by.1 (boundary-is_part s f i by.0)

    pub part-contact : (s : PlacedEdge A) (f p : ℕ) → IsPart P r k s f p → contact_at P r k s ≡ outer f p
    part-contact s f p h =
        let lies = (part-is_child_edge s f p h).1 in
        ap (contact_by P r k (edge_name s)) lies ∙ ap (outer f) (part-number P W r k cut f p s h.edge_below h.at)
