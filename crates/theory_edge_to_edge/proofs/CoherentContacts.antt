-- The contact tables that the geometry of an accepted rule gives are coherent.
use Rattle.std.proofs.Common.{◌≡◌, ℕ, ◌<◌, Bool, true, length, Some, IsSome, is_ok, refl, sym, ap, ◌∙◌, subst}
use Rattle.theory_substitution.specs.Points.{Points, PointLaws}
use Rattle.theory_addresses.specs.Search.{IsAmong}
use Rattle.theory_substitution.specs.Rule.{Rule}
use Rattle.theory_substitution.specs.RuleParts.{mate, edge_count, child_of}
use Rattle.theory_edge_to_edge.specs.Numbered.{IsNumbered}
use Rattle.theory_edge_to_edge.specs.Edition.{Edition}
use Rattle.theory_edge_to_edge.specs.EdgeToEdge.{IsEdgeToEdge}
use Rattle.theory_addresses.specs.Contact.{Contact, ChildEdge, inner, outer}
use Rattle.theory_edge_to_edge.specs.Contacts.{edge_name, contact_by, tables_of}
use Rattle.theory_edge_to_edge.specs.Edges.{PlacedEdge, child_edge, child_edges}
use Rattle.theory_edge_to_edge.specs.Boundary.{parts_of_edge}
use Rattle.theory_addresses.specs.Tables.{Tables, type_of, contact_of, part_of, mate_of, child_type_of}
use Rattle.theory_addresses.specs.Coherent.{IsCoherent}
use Rattle.theory_addresses.proofs.Ranges.{slice_get-image, image-at}
use Rattle.theory_edge_to_edge.proofs.ChildEdges.{HasChildEdge, kind-with_child, kind-with_edge, child_edge-among, among-child_edges}
use Rattle.theory_edge_to_edge.proofs.CutEdges.{cut_parts}
use Rattle.theory_edge_to_edge.proofs.TablesOf.{length-kinds, type_of-at, length-mates, length-subs, mate_of-at, subs_of-is, child_type_of-at, contact_at, contact_of-at, contact_of-found, part_of-at, part_of-found}
use Rattle.theory_edge_to_edge.proofs.CoherentTypes.{kind_below, type_below, length-children, length-types, length-contacts, length-parts, contact-each, few_parts, type-exists, mate-exists, mates-back, is-mirrored, child-exists, types-of_parts}
use Rattle.theory_edge_to_edge.proofs.ContactCases.{PointsBack, IsPart, part-is_child_edge, contact-inner, contact-outer, part-contact}

-- s is edge e of child c of kind k
pub record Named (P : Points) (r : Rule P.ring.carrier) (k : ℕ) (s : PlacedEdge P.ring.carrier) (c e : ℕ) : Type 0 where
  pub has : HasChildEdge P r k c e
  pub is : s ≡ child_edge P r k c e

pub named : (P : Points) (r : Rule P.ring.carrier) (k c e : ℕ) (s : PlacedEdge P.ring.carrier)
    → IsAmong s (child_edges P r k) → s.child ≡ c → s.edge ≡ e → Named P r k s c e
named P r k c e s i hc he =
    let is = among-child_edges P r k s i in
    subst (λ (d : ℕ). Named P r k s d e) hc (subst (λ (f : ℕ). Named P r k s s.child f) he (record { has = is.has; is = is.is }))

-- x is the contact of a child edge
pub record Contacted (P : Points) (r : Rule P.ring.carrier) (k c e : ℕ) (x : Contact) : Type 0 where
  pub has : HasChildEdge P r k c e
  pub among : IsAmong (child_edge P r k c e) (child_edges P r k)
  pub is : contact_at P r k (child_edge P r k c e) ≡ x
  pub in_range : k < length r.kinds

pub contacted : (P : Points) (r : Rule P.ring.carrier) (k c e : ℕ) (x : Contact) → contact_of (tables_of P r) k c e ≡ Some x → Contacted P r k c e x
contacted P r k c e x h =
    let found = contact_of-found P r k c e x h in
    record { has = found.0; among = child_edge-among P r k c e found.0; is = sym found.1; in_range = kind-with_child P r k c found.0.child_below }

module _ (P : Points) (W : PointLaws P) (edition : Edition) (refused : P.ring.carrier → Bool)
    (r : Rule P.ring.carrier) (N : IsNumbered P r) (D : IsEdgeToEdge P edition refused r) where
  abbrev A : Type 0
  A = P.ring.carrier

  abbrev t : Tables
  t = tables_of P r

  pub cut_edges : (k e : ℕ) → e < edge_count r k → is_ok (parts_of_edge P r k e) ≡ true
  cut_edges k e h = D.boundary_cut k e (kind-with_edge P r k e h) h

  pub inner_other : (k a e b f : ℕ) → contact_of t k a e ≡ Some (inner b f) → PointsBack P r k (child_edge P r k a e) b f
  inner_other k a e b f h =
      let c = contacted P r k a e (inner b f) h in
      contact-inner P W r k (D.none_loose k c.in_range) (cut_edges k) (child_edge P r k a e) b f c.among c.is

  points-back : (k a e b f : ℕ) → contact_of t k a e ≡ Some (inner b f) → contact_of t k b f ≡ Some (inner a e)
  points-back k a e b f h =
      let back = inner_other k a e b f h in
      let other = named P r k b f back.other back.among back.child back.edge in
      contact_of-at P r k b f other.has ∙ ap (λ (s : PlacedEdge A). Some (contact_at P r k s)) (sym other.is)
      ∙ ap (λ l. Some (contact_by P r k (edge_name back.other) l)) back.back

  is-mated : (k a e b f ty : ℕ) → contact_of t k a e ≡ Some (inner b f) → child_type_of t k (record { child = a; edge = e }) ≡ Some ty
      → child_type_of t k (record { child = b; edge = f }) ≡ mate_of t ty
  is-mated k a e b f ty h type =
      let c = contacted P r k a e (inner b f) h in
      let back = inner_other k a e b f h in
      let other = named P r k b f back.other back.among back.child back.edge in
      let s = child_edge P r k a e in
      let own : s.type ≡ ty = let typed = child_type_of-at P r k a e c.has in cc in
      let small : ty < length r.types = subst (λ (u : ℕ). u < length r.types) own
      (N.type_exists (child_of P r k a).kind e (N.child_exists k a c.in_range c.has.child_below)
      c.has.edge_below) in
      child_type_of-at P r k b f other.has ∙ ap (λ (u : PlacedEdge A). Some u.type) (sym other.is)
      ∙ ap Some (sym back.mates ∙ ap (mate r) own) ∙ sym (mate_of-at P r ty small)

  pub part-from : (k c e f p : ℕ) → contact_of t k c e ≡ Some (outer f p) → IsPart P r k (child_edge P r k c e) f p
  part-from k c e f p h =
      let at = contacted P r k c e (outer f p) h in
      contact-outer P W r k (D.none_loose k at.in_range) (cut_edges k) (child_edge P r k c e) f p at.among at.is

  outer-part : (k c e f p : ℕ) → contact_of t k c e ≡ Some (outer f p) → part_of t k f p ≡ Some (record { child = c; edge = e })
  outer-part k c e f p h =
      let part = part-from k c e f p h in
      part_of-at P r k f p part.edge_below ∙ slice_get-image edge_name (child_edge P r k c e) (cut_parts P r k f) p part.at

  part-outer : (k c e f p : ℕ) → part_of t k f p ≡ Some (record { child = c; edge = e }) → contact_of t k c e ≡ Some (outer f p)
  part-outer k c e f p h =
      let found = part_of-found P r k f p (record { child = c; edge = e }) h in
      let image = image-at edge_name (record { child = c; edge = e }) (cut_parts P r k f) p found.1 in
      let part : IsPart P r k image.source f p = record { edge_below = found.0; at = image.at } in
      let in_range = kind-with_edge P r k f found.0 in
      let among = (part-is_child_edge P W r k (D.none_loose k in_range) (cut_edges k) image.source f p part).0 in
      let other = named P r k c e image.source among (ap (λ (n : ChildEdge). n.child) image.image) (ap (λ (n : ChildEdge). n.edge) image.image) in
      contact_of-at P r k c e other.has ∙ ap (λ (s : PlacedEdge A). Some (contact_at P r k s)) (sym other.is)
      ∙ ap Some (part-contact P W r k (D.none_loose k in_range) (cut_edges k) image.source f p part)

  outer-edge : (k c e f p : ℕ) → contact_of t k c e ≡ Some (outer f p) → IsSome (type_of t k f)
  outer-edge k c e f p h = rw (type_of-at P r k f (part-from k c e f p h).edge_below) refl

-- the contact tables of an accepted rule are coherent
pub contacts-coherent : (P : Points) → PointLaws P → (edition : Edition) → (refused : P.ring.carrier → Bool)
    → (r : Rule P.ring.carrier) → IsNumbered P r → IsEdgeToEdge P edition refused r
    → IsCoherent (tables_of P r)
contacts-coherent P W edition refused r N D = record {
  some_kind = rw (length-kinds P r) N.some_kind;
  at_most_16_kinds = rw (length-kinds P r) N.at_most_16_kinds;
  some_child = λ k h. rw (length-children P W edition refused r N D k) (N.some_child k (kind_below P W edition refused r N D k h));
  at_most_16_children = λ k h. rw (length-children P W edition refused r N D k) (N.at_most_16_children k (kind_below P W edition refused r N D k h));
  at_least_3_edges = λ k h. rw (length-types P W edition refused r N D k) (N.at_least_3_edges k (kind_below P W edition refused r N D k h));
  at_most_12_edges = λ k h. rw (length-types P W edition refused r N D k) (N.at_most_12_edges k (kind_below P W edition refused r N D k h));
  some_type = rw (length-mates P r) N.some_type;
  at_most_32_types = rw (length-mates P r) N.at_most_32_types;
  some_part = λ ty h. rw (subs_of-is P r ty) (N.some_part ty (type_below P W edition refused r N D ty h));
  at_most_8_parts = λ ty. rw (subs_of-is P r ty) (few_parts P W edition refused r N D ty);
  sub_each = length-subs P r ∙ sym (length-mates P r);
  contacts_each = λ k. length-contacts P W edition refused r N D k ∙ sym (length-children P W edition refused r N D k);
  contact_each = contact-each P W edition refused r N D;
  parts_each = λ k h. length-parts P W edition refused r N D k ∙ sym (length-types P W edition refused r N D k);
  child_exists = child-exists P W edition refused r N D;
  type_exists = type-exists P W edition refused r N D;
  mate_exists = mate-exists P W edition refused r N D;
  mates_back = mates-back P W edition refused r N D;
  mirrored = is-mirrored P W edition refused r N D;
  points_back = points-back P W edition refused r N D;
  mated = is-mated P W edition refused r N D;
  outer_part = λ k c e f p. (outer-part P W edition refused r N D k c e f p, part-outer P W edition refused r N D k c e f p);
  outer_edge = outer-edge P W edition refused r N D;
  part_types = types-of_parts P W edition refused r N D;
}
