-- What the look-ups find in the contact tables that the geometry of a rule gives.
use Rattle.std.proofs.Common.{◌≡◌, inl, inr, ℕ, ◌<◌, ◌≤◌, [], length, map, slice_get, Some, refl, sym, ap, ◌∙◌}
use Rattle.std.proofs.lemmas.Bool.{cases_lt}
use Rattle.std.proofs.lemmas.List.{length-map}
use Rattle.std.proofs.lemmas.Option.{slice_get_within, slice_get_past, slice_get-get_or, get_or_from_slice_get}
use Rattle.theory_substitution.specs.Points.{Points}
use Rattle.theory_substitution.specs.Motion.{still}
use Rattle.theory_substitution.specs.Rule.{Child, EdgeType, Kind, Rule, children_of}
use Rattle.theory_substitution.specs.RuleParts.{edge_type_of, mate, parts, edge_types, edge_count, edge_type, child_of}
use Rattle.theory_addresses.specs.Contact.{Contact, ChildEdge}
use Rattle.theory_edge_to_edge.specs.Contacts.{edge_name, named_parts, contact_by, contacts_of_child, tables_of_kind, tables_of}
use Rattle.theory_edge_to_edge.specs.Edges.{PlacedEdge, child_edge, edges_of_child}
use Rattle.theory_edge_to_edge.specs.Lying.{lie_of}
use Rattle.theory_addresses.specs.Search.{below}
use Rattle.theory_addresses.specs.Tables.{Tables, KindTables, kind_tables, type_of, child_kind_of, contacts_of, parts_of, contact_of, part_of, mate_of, subs_of, child_type_of}
use Rattle.theory_addresses.proofs.Ranges.{slice_get-image, image-at, length-below, slice_get-below, slice_get-below_past, below-at, get_or-past}
use Rattle.theory_edge_to_edge.proofs.ChildEdges.{HasChildEdge, kind-past}

module _ (P : Points) (r : Rule P.ring.carrier) where
  abbrev A : Type 0
  A = P.ring.carrier

  abbrev t : Tables
  t = tables_of P r

  pub length-kinds : length t.kinds ≡ length r.kinds
  length-kinds = length-below (tables_of_kind P r) (length r.kinds)

  -- the tables of number k, by its kind
  abbrev from_kind : ℕ → Kind A → KindTables
  from_kind k kind = record {
    types = kind.edges;
    children = map (λ c. c.kind) kind.children;
    contacts = below (contacts_of_child P r k) (length kind.children);
    parts = below (named_parts P r k) (length kind.edges);
  }

  pub kind_tables-is : (k : ℕ) → kind_tables t k ≡ tables_of_kind P r k
  unfolding kind_tables
  kind_tables-is k = elim (cases_lt k (length r.kinds)) [
    | inl lt ↦ rw (slice_get-below (tables_of_kind P r) (length r.kinds) k lt) refl
    | inr ge ↦ rw (slice_get-below_past (tables_of_kind P r) (length r.kinds) k ge) (sym (ap (from_kind k) (kind-past P r k ge)))
  ]

  -- ---- edge types
  pub type_of-is : (k e : ℕ) → type_of t k e ≡ slice_get (edge_types r k) e
  unfolding type_of
  type_of-is k e = rw (kind_tables-is k) refl

  pub type_of-at : (k e : ℕ) → e < edge_count r k → type_of t k e ≡ Some (edge_type r k e)
  type_of-at k e h = type_of-is k e ∙ slice_get-get_or (edge_types r k) e 0 h

  pub type_of-found : (k e ty : ℕ) → type_of t k e ≡ Some ty → (e < edge_count r k) × (ty ≡ edge_type r k e)
  type_of-found k e ty h =
      let at : slice_get (edge_types r k) e ≡ Some ty = sym (type_of-is k e) ∙ h in
      (slice_get_within (edge_types r k) e ty at, sym (get_or_from_slice_get (edge_types r k) e ty 0 at))

  pub length-mates : length t.mates ≡ length r.types
  length-mates = length-map r.types (λ (ty : EdgeType). ty.mate)

  pub length-subs : length t.subs ≡ length r.types
  length-subs = length-map r.types (λ (ty : EdgeType). ty.parts)

  pub mate_of-at : (ty : ℕ) → ty < length r.types → mate_of t ty ≡ Some (mate r ty)
  unfolding mate_of
  mate_of-at ty h = slice_get-image (λ (u : EdgeType). u.mate) (edge_type_of r ty) r.types ty
      (slice_get-get_or r.types ty (record { mate = 0; parts = [] }) h)

  pub mate_of-found : (ty m : ℕ) → mate_of t ty ≡ Some m → (ty < length r.types) × (m ≡ mate r ty)
  unfolding mate_of
  mate_of-found ty m h =
      let image = image-at (λ (u : EdgeType). u.mate) m r.types ty h in (
        slice_get_within r.types ty image.source image.at,
        sym image.image ∙ ap (λ (u : EdgeType). u.mate)
            (sym (get_or_from_slice_get r.types ty image.source (record { mate = 0; parts = [] }) image.at)),
      )

  pub subs_of-is : (ty : ℕ) → subs_of t ty ≡ parts r ty
  unfolding subs_of
  subs_of-is ty = elim (cases_lt ty (length r.types)) [
    | inl lt ↦ rw (slice_get-image (λ (u : EdgeType). u.parts) (edge_type_of r ty) r.types ty
        (slice_get-get_or r.types ty (record { mate = 0; parts = [] }) lt)) refl
    | inr ge ↦ rw (slice_get_past (map (λ (u : EdgeType). u.parts) r.types) ty (rw length-subs ge))
        (sym (ap (λ (u : EdgeType). u.parts) (get_or-past r.types ty (record { mate = 0; parts = [] }) ge)))
  ]

  -- ---- children
  pub child_kind_of-at : (k c : ℕ) → c < length (children_of r k) → child_kind_of t k c ≡ Some (child_of P r k c).kind
  unfolding child_kind_of
  child_kind_of-at k c h =
      rw (kind_tables-is k)
      (slice_get-image (λ (u : Child A). u.kind) (child_of P r k c) (children_of r k) c
      (slice_get-get_or (children_of r k) c (record { kind = 0; motion = still P }) h))

  pub child_kind_of-found : (k c kind : ℕ) → child_kind_of t k c ≡ Some kind → (c < length (children_of r k)) × (kind ≡ (child_of P r k c).kind)
  unfolding child_kind_of
  child_kind_of-found k c kind h =
      let h' : slice_get (map (λ (u : Child A). u.kind) (children_of r k)) c ≡ Some kind = rw (kind_tables-is k) at h in
      let image = image-at (λ (u : Child A). u.kind) kind (children_of r k) c h' in (
        slice_get_within (children_of r k) c image.source image.at,
        sym image.image ∙ ap (λ (u : Child A). u.kind)
            (sym (get_or_from_slice_get (children_of r k) c image.source
            (record { kind = 0; motion = still P }) image.at)),
      )

  pub child_type_of-at : (k c e : ℕ) → HasChildEdge P r k c e
      → child_type_of t k (record { child = c; edge = e }) ≡ Some (edge_type r (child_of P r k c).kind e)
  unfolding child_type_of
  child_type_of-at k c e h = rw (child_kind_of-at k c h.child_below) (type_of-at (child_of P r k c).kind e h.edge_below)

  -- ---- contacts
  pub contacts_of-at : (k c : ℕ) → c < length (children_of r k) → contacts_of t k c ≡ contacts_of_child P r k c
  unfolding contacts_of
  contacts_of-at k c h = rw (kind_tables-is k, slice_get-below (contacts_of_child P r k) (length (children_of r k)) c h) refl

  contacts_of-past : (k c : ℕ) → length (children_of r k) ≤ c → contacts_of t k c ≡ []
  unfolding contacts_of
  contacts_of-past k c h = rw (kind_tables-is k, slice_get-below_past (contacts_of_child P r k) (length (children_of r k)) c h) refl

  abbrev pub contact_at : ℕ → PlacedEdge A → Contact
  contact_at k s = contact_by P r k (edge_name s) (lie_of P r k s)

  pub contact_of-at : (k c e : ℕ) → HasChildEdge P r k c e → contact_of t k c e ≡ Some (contact_at k (child_edge P r k c e))
  unfolding contact_of
  contact_of-at k c e h =
      rw (contacts_of-at k c h.child_below)
      (slice_get-image (contact_at k) (child_edge P r k c e) (edges_of_child P r k c) e
      (slice_get-below (child_edge P r k c) (edge_count r (child_of P r k c).kind) e h.edge_below))

  pub contact_of-found : (k c e : ℕ) (x : Contact) → contact_of t k c e ≡ Some x → HasChildEdge P r k c e × (x ≡ contact_at k (child_edge P r k c e))
  unfolding contact_of
  contact_of-found k c e x h = elim (cases_lt c (length (children_of r k))) [
    | inl lt ↦
        let h' : slice_get (contacts_of_child P r k c) e ≡ Some x = rw (contacts_of-at k c lt) at h in
        let image = image-at (contact_at k) x (edges_of_child P r k c) e h' in
        let there = below-at (child_edge P r k c) (edge_count r (child_of P r k c).kind) e image.source image.at in
        (record { child_below = lt; edge_below = there.in_range }, sym image.image ∙ ap (contact_at k) there.is)
    | inr ge ↦ let h' : slice_get {X = Contact} [] e ≡ Some x = rw (contacts_of-past k c ge) at h in absurd cc
  ]

  -- ---- parts
  pub parts_of-at : (k e : ℕ) → e < edge_count r k → parts_of t k e ≡ named_parts P r k e
  unfolding parts_of
  parts_of-at k e h = rw (kind_tables-is k, slice_get-below (named_parts P r k) (edge_count r k) e h) refl

  parts_of-past : (k e : ℕ) → edge_count r k ≤ e → parts_of t k e ≡ []
  unfolding parts_of
  parts_of-past k e h = rw (kind_tables-is k, slice_get-below_past (named_parts P r k) (edge_count r k) e h) refl

  pub part_of-at : (k e p : ℕ) → e < edge_count r k → part_of t k e p ≡ slice_get (named_parts P r k e) p
  unfolding part_of
  part_of-at k e p h = rw (parts_of-at k e h) refl

  pub part_of-found : (k e p : ℕ) (n : ChildEdge) → part_of t k e p ≡ Some n → (e < edge_count r k) × (slice_get (named_parts P r k e) p ≡ Some n)
  unfolding part_of
  part_of-found k e p n h = elim (cases_lt e (edge_count r k)) [
    | inl lt ↦ (lt, sym (part_of-at k e p lt) ∙ h)
    | inr ge ↦ let h' : slice_get {X = ChildEdge} [] p ≡ Some n = rw (parts_of-past k e ge) at h in absurd cc
  ]
