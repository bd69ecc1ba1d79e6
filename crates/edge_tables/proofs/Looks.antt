-- The look-ups of the theory, in the vectors.
use Rattle.std.proofs.Common.{◌≡◌, ℕ, ◌<◌, List, length, map, Some, IsSome, get_or, sym, ap, ◌∙◌, arith, refl, Vec, Global}
use Rattle.std.proofs.lemmas.Option.{slice_get-map, slice_get_read}
use Rattle.std.proofs.lemmas.List.{length-map}
use Rattle.edge_tables.specs.declared.contact.Contact.{Contact}
use Rattle.edge_tables.specs.declared.child_edge.ChildEdge.{ChildEdge}
use Rattle.edge_tables.specs.declared.kind_rows.KindRows.{KindRows}
use Rattle.edge_tables.specs.Views.{as_contact, as_child_edge, as_kind_tables}
use Rattle.theory_addresses.specs.Contact as theory
use Rattle.theory_addresses.specs.Tables.{Tables, KindTables, kind_tables, type_of, child_kind_of, contacts_of, parts_of, contact_of, part_of, part_count}
use Rattle.theory_addresses.specs.Coherent.{IsCoherent}
use Rattle.theory_addresses.proofs.TableBounds.{child_bounds, type_bounds, contact_bounds, part_bounds, some_within}

-- the tables of a kind, in the list of those of all kinds
pub kind_tables-read : (t : Tables) (rows : List KindRows) (k : ℕ) (r : KindRows)
    → map as_kind_tables rows ≡ t.kinds → k < length rows → r ≡ get_or rows k r
    → as_kind_tables r ≡ kind_tables t k
unfolding kind_tables
kind_tables-read t rows k r e h is = rw (← e, slice_get-map as_kind_tables rows k, slice_get_read rows (length rows) k r refl h is) refl

module _ (t : Tables) (k : ℕ) (r : KindRows) (row : as_kind_tables r ≡ kind_tables t k) where
  -- ---- children
  child_count : length r.children.items ≡ length (kind_tables t k).children
  child_count = ap (λ (m : KindTables). length m.children) row

  pub child_inside : (c : ℕ) → IsSome (child_kind_of t k c) → c < length r.children.items
  child_inside c h = omega (arith, (child_bounds t k c h).1, child_count)

  pub child_read : (c x : ℕ) → c < length r.children.items → x ≡ get_or r.children.items c x → child_kind_of t k c ≡ Some x
  unfolding child_kind_of
  child_read c x inside is = rw (← row) (slice_get_read r.children.items (length r.children.items) c x refl inside is)

  pub child_there : (c : ℕ) → c < length r.children.items → IsSome (child_kind_of t k c)
  unfolding child_kind_of
  child_there c inside = rw (← row, (some_within r.children.items c inside).1) refl

  -- ---- edges
  edge_count : length r.types.items ≡ length (kind_tables t k).types
  edge_count = ap (λ (m : KindTables). length m.types) row

  pub edge_inside : (e : ℕ) → IsSome (type_of t k e) → e < length r.types.items
  edge_inside e h = omega (arith, (type_bounds t k e h).1, edge_count)

  pub edge_read : (e x : ℕ) → e < length r.types.items → x ≡ get_or r.types.items e x → type_of t k e ≡ Some x
  unfolding type_of
  edge_read e x inside is = rw (← row) (slice_get_read r.types.items (length r.types.items) e x refl inside is)

  pub edge_there : (e : ℕ) → e < length r.types.items → IsSome (type_of t k e)
  unfolding type_of
  edge_there e inside = rw (← row, (some_within r.types.items e inside).1) refl

  -- ---- contacts
  pub contacts_inside : (c e : ℕ) → IsSome (contact_of t k c e) → c < length r.contacts.items
  contacts_inside c e h = omega (
    arith,
    (contact_bounds t k c e h).1,
    ap
        (λ (m : KindTables). length m.contacts) row,
    length-map r.contacts.items (λ v. map as_contact v.items),
  )

  contacts_read : (c : ℕ) (v : Vec Contact Global) → c < length r.contacts.items
      → v ≡ get_or r.contacts.items c v → contacts_of t k c ≡ map as_contact v.items
  unfolding contacts_of
  contacts_read c v inside is = rw (
    ← row,
    slice_get-map (λ (w : Vec Contact Global). map as_contact w.items)
        r.contacts.items c,
    slice_get_read r.contacts.items (length r.contacts.items) c v refl inside is,
  ) refl

  pub contact_inside : (c e : ℕ) (v : Vec Contact Global) → IsSome (contact_of t k c e) → v ≡ get_or r.contacts.items c v → e < length v.items
  contact_inside c e v h is =
      omega (
        arith,
        (contact_bounds t k c e h).2,
        ap (λ (l : List theory.Contact). length l)
            (contacts_read c v (contacts_inside c e h) is),
        length-map v.items as_contact,
      )

  pub contact_read : (c e : ℕ) (v : Vec Contact Global) (x : Contact) → IsSome (contact_of t k c e)
      → v ≡ get_or r.contacts.items c v → x ≡ get_or v.items e x → contact_of t k c e ≡ Some (as_contact x)
  unfolding contact_of
  contact_read c e v x h is here =
      rw (
        contacts_read c v (contacts_inside c e h) is,
        slice_get-map as_contact v.items e,
        slice_get_read
            v.items (length v.items) e x refl (contact_inside c e v h is) here,
      ) refl

  -- ---- parts
  pub parts_inside : (e p : ℕ) → IsSome (part_of t k e p) → e < length r.parts.items
  parts_inside e p h = omega (
    arith,
    (part_bounds t k e p h).1,
    ap (λ (m : KindTables). length m.parts) row,
    length-map r.parts.items (λ v. map as_child_edge v.items),
  )

  parts_read : (e : ℕ) (v : Vec ChildEdge Global) → e < length r.parts.items → v ≡ get_or r.parts.items e v
      → parts_of t k e ≡ map as_child_edge v.items
  unfolding parts_of
  parts_read e v inside is = rw (
    ← row,
    slice_get-map
        (λ (w : Vec ChildEdge Global). map as_child_edge w.items) r.parts.items e,
    slice_get_read r.parts.items
        (length r.parts.items) e v refl inside is,
  ) refl

  pub part_inside : (e p : ℕ) (v : Vec ChildEdge Global) → IsSome (part_of t k e p) → v ≡ get_or r.parts.items e v → p < length v.items
  part_inside e p v h is =
      omega (
        arith,
        (part_bounds t k e p h).2,
        ap (λ (l : List theory.ChildEdge). length l)
            (parts_read e v (parts_inside e p h) is),
        length-map v.items as_child_edge,
      )

  pub part_read : (e p : ℕ) (v : Vec ChildEdge Global) (x : ChildEdge) → IsSome (part_of t k e p)
      → v ≡ get_or r.parts.items e v → x ≡ get_or v.items p x → part_of t k e p ≡ Some (as_child_edge x)
  unfolding part_of
  part_read e p v x h is here =
      rw (
        parts_read e v (parts_inside e p h) is,
        slice_get-map as_child_edge v.items p,
        slice_get_read
            v.items (length v.items) p x refl (part_inside e p v h is) here,
      ) refl

  -- ---- the number of parts
  pub edge_parts_inside : (e : ℕ) → IsCoherent t → IsSome (type_of t k e) → e < length r.parts.items
  edge_parts_inside e coherent h =
      let b = type_bounds t k e h in
      omega (
        arith,
        b.1,
        coherent.parts_each k b.0,
        ap (λ (m : KindTables). length m.parts) row,
        length-map
            r.parts.items (λ v. map as_child_edge v.items),
      )

  pub part_count-read : (e : ℕ) (v : Vec ChildEdge Global) → IsCoherent t → IsSome (type_of t k e)
      → v ≡ get_or r.parts.items e v → length v.items ≡ part_count t k e
  unfolding part_count
  part_count-read e v coherent h is =
      sym (length-map v.items as_child_edge) ∙ ap (λ (l : List theory.ChildEdge). length l) (sym (parts_read e v (edge_parts_inside e coherent h) is))
