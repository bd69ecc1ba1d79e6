-- What the flat lists of tables hold where they are looked up.
use Rattle.std.proofs.Common.{◌≡◌, ℕ, ◌+◌, ◌*◌, ◌-◌, ◌<◌, ◌≤◌, ◌/◌, ◌%◌, ◌^◌, List, length, Some, IsSome, true, false, nat_lt, refl, sym, ap, ◌∙◌, arith}
use Rattle.std.specs.List.{slice_get}
use Rattle.std.proofs.lemmas.Bool.{le-ltb, lt-ltb}
use Rattle.theory_addresses.specs.Coherent.{IsCoherent}
use Rattle.theory_addresses.specs.Contact.{Contact, ChildEdge, inner, outer}
use Rattle.theory_addresses.specs.Tables.{Tables, kind_tables, type_of, child_kind_of, contact_of, part_of, part_count}
use Rattle.theory_addresses.proofs.TableBounds.{some_within, contact_bounds, part_bounds, type_bounds, part_count-within, some_of, part_there}
use Rattle.transducer_core.specs.FlatTables.{contact_rows, part_rows, kind_rows}
use Rattle.transducer_core.specs.Merged.{AllBegin, HasEntry, AreSpread, last_cell}
use Rattle.transducer_core.specs.Words.{word_of_contact, contact_of_word, word_of_part, part_of_word}
use Rattle.transducer_core.proofs.FlatEntries.{same_entry, has_contact, has_part, has_kind}

-- ---- words stand for one entry
low : (e c : ℕ) → c < 256 → (e * 256 + c) % 256 ≡ c
low e c h = omega arith

high : (e c : ℕ) → c < 256 → e < 256 → (e * 256 + c) / 256 % 256 ≡ e
high e c h g =
    let q : (e * 256 + c) / 256 ≡ e = omega arith in
    let r : e % 256 ≡ e = omega arith in
    ap (λ n. n % 256) q ∙ r

low_top : (e c : ℕ) → c < 256 → (65536 + e * 256 + c) % 256 ≡ c
low_top e c h = omega arith

high_top : (e c : ℕ) → c < 256 → e < 256 → (65536 + e * 256 + c) / 256 % 256 ≡ e
high_top e c h g =
    let q : (65536 + e * 256 + c) / 256 ≡ 256 + e = omega arith in
    let r : (256 + e) % 256 ≡ e = omega arith in
    ap (λ n. n % 256) q ∙ r

pub outer_back : (e p : ℕ) → e < 256 → p < 256 → contact_of_word (word_of_contact (outer e p)) ≡ outer e p
outer_back e p he hp =
    let test : nat_lt (e * 256 + p) 65536 ≡ true = lt-ltb (e * 256 + p) 65536 (omega arith) in
    rw (test, low e p hp, high e p hp he) refl

pub inner_back : (c e : ℕ) → c < 256 → e < 256 → contact_of_word (word_of_contact (inner c e)) ≡ inner c e
inner_back c e hc he =
    let test : nat_lt (65536 + e * 256 + c) 65536 ≡ false = le-ltb (65536 + e * 256 + c) 65536 (omega arith) in
    rw (test, low_top e c hc, high_top e c hc he) refl

pub part_back : (ce : ChildEdge) → ce.child < 256 → ce.edge < 256 → part_of_word (word_of_part ce) ≡ ce
part_back ce hc he = λ i. record { child = low ce.edge ce.child hc i; edge = high ce.edge ce.child hc he i }

-- the numbers of a child edge that has a contact
small : (t : Tables) (k c e : ℕ) → IsCoherent t → IsSome (contact_of t k c e) → (c < 256) × (e < 256)
unfolding child_kind_of
small t k c e coherent h =
    let b = contact_bounds t k c e h in
    let inside : c < length (kind_tables t k).children = omega (arith, b.1, coherent.contacts_each k) in
    let kind = some_within (kind_tables t k).children c inside in
    let exists = coherent.child_exists k c kind.0 kind.1 in (
      omega (arith, inside, coherent.at_most_16_children k b.0),
      omega
          (arith, b.2, coherent.contact_each k c kind.0 kind.1, coherent.at_most_12_edges kind.0 exists),
    )

outer_small : (t : Tables) (k c e f p : ℕ) → IsCoherent t → contact_of t k c e ≡ Some (outer f p) → (f < 256) × (p < 256)
unfolding part_count
outer_small t k c e f p coherent is =
    let edge = coherent.outer_edge k c e f p is in
    let b = type_bounds t k f edge in
    let part = part_bounds t k f p (rw ((coherent.outer_part k c e f p).0 is) refl) in
    let few = (part_count-within t k f coherent edge).1 in
    (omega (arith, b.1, coherent.at_most_12_edges k b.0), omega (arith, part.2, few))

pub contact_back : (t : Tables) (k c e : ℕ) (x : Contact) → IsCoherent t → contact_of t k c e ≡ Some x → contact_of_word (word_of_contact x) ≡ x
contact_back t k c e (inner b f) coherent is =
    let s = small t k b f coherent (rw (coherent.points_back k c e b f is) refl) in
    inner_back b f s.0 s.1
contact_back t k c e (outer f p) coherent is =
    let s = outer_small t k c e f p coherent is in
    outer_back f p s.0 s.1

pub part_entry_back : (t : Tables) (k e p : ℕ) (x : ChildEdge) → IsCoherent t → part_of t k e p ≡ Some x → part_of_word (word_of_part x) ≡ x
part_entry_back t k e p x coherent is =
    let s = small t k x.child x.edge coherent (rw ((coherent.outer_part k x.child x.edge e p).1 is) refl) in
    part_back x s.0 s.1

-- ---- the look-ups in tables that are laid out right
module _ (t : Tables) (starts words : List ℕ) (coherent : IsCoherent t) (begin : AllBegin (contact_rows t) starts words) where
  pub contact_there : (k c e : ℕ) → IsSome (contact_of t k c e) → (w : ℕ) × HasEntry starts words (256 * k + c) e w
  contact_there k c e h =
      let x = some_of (contact_of t k c e) h in
      (word_of_contact x.0, has_contact t k c e x.0 starts words begin x.1)

  -- the word that is read is that of the contact
  pub contact_word : (k c e w : ℕ) (x : Contact) → contact_of t k c e ≡ Some x → HasEntry starts words (256 * k + c) e w → w ≡ word_of_contact x
  contact_word k c e w x is entry = same_entry entry (has_contact t k c e x starts words begin is)

  pub contact_read : (k c e w : ℕ) (y : Contact) → IsSome (contact_of t k c e)
      → HasEntry starts words (256 * k + c) e w → y ≡ contact_of_word w → contact_of t k c e ≡ Some y
  contact_read k c e w y h entry is =
      let x = some_of (contact_of t k c e) h in
      x.1 ∙ ap Some (sym (is ∙ ap contact_of_word (contact_word k c e w x.0 x.1 entry) ∙ contact_back t k c e x.0 coherent x.1))

  -- below 2 ^ 16 it is outer, and else inner
  pub outer_read : (k c e w : ℕ) → IsSome (contact_of t k c e) → HasEntry starts words (256 * k + c) e w
      → w < 2 ^ 16 → contact_of t k c e ≡ Some (outer (w / 256) (w % 256))
  outer_read k c e w h entry below =
      let x = some_of (contact_of t k c e) h in
      x.1 ∙ ap Some (as_outer x.0 x.1 (contact_word k c e w x.0 x.1 entry))
    where
      as_outer : (x : Contact) → contact_of t k c e ≡ Some x → w ≡ word_of_contact x → x ≡ outer (w / 256) (w % 256)
      as_outer (inner b f) is word = absurd (omega arith)
      as_outer (outer f p) is word =
          let s = outer_small t k c e f p coherent is in
          let edge : f ≡ w / 256 = omega arith in
          let part : p ≡ w % 256 = omega arith in
          λ i. outer (edge i) (part i)

  pub inner_read : (k c e w : ℕ) → IsSome (contact_of t k c e) → HasEntry starts words (256 * k + c) e w
      → 2 ^ 16 ≤ w → contact_of t k c e ≡ Some (inner (w % 256) (w / 256 % 256))
  inner_read k c e w h entry above =
      let x = some_of (contact_of t k c e) h in
      x.1 ∙ ap Some (as_inner x.0 x.1 (contact_word k c e w x.0 x.1 entry))
    where
      as_inner : (x : Contact) → contact_of t k c e ≡ Some x → w ≡ word_of_contact x → x ≡ inner (w % 256) (w / 256 % 256)
      as_inner (outer f p) is word = let s = outer_small t k c e f p coherent is in absurd (omega arith)
      as_inner (inner b f) is word =
          let s = small t k b f coherent (rw (coherent.points_back k c e b f is) refl) in
          let child : b ≡ w % 256 = rw word (sym (low_top f b s.0)) in
          let edge : f ≡ w / 256 % 256 = rw word (sym (high_top f b s.0 s.1)) in
          λ i. inner (child i) (edge i)

module _ (t : Tables) (starts words : List ℕ) (coherent : IsCoherent t) (begin : AllBegin (part_rows t) starts words) where
  pub part_across_there : (k e p : ℕ) → p < part_count t k e → (w : ℕ) × HasEntry starts words (256 * k + e) p w
  part_across_there k e p inside =
      let own = part_count t k e - 1 - p in
      let mirrored : own + (p + 1) ≡ part_count t k e = omega arith in
      let x = some_of (part_of t k e own) (part_there t k e own (omega arith)) in
      (word_of_part x.0, has_part t k e own p x.0 starts words begin x.1 mirrored)

  pub part_across_read : (k e p w : ℕ) (y : ChildEdge) → HasEntry starts words (256 * k + e) p w
      → y ≡ part_of_word w → (own : ℕ) → own + (p + 1) ≡ part_count t k e → part_of t k e own ≡ Some y
  part_across_read k e p w y entry is own mirrored =
      let x = some_of (part_of t k e own) (part_there t k e own (omega arith)) in
      let same = same_entry entry (has_part t k e own p x.0 starts words begin x.1 mirrored) in
      x.1 ∙ ap Some (sym (is ∙ ap part_of_word same ∙ part_entry_back t k e own x.0 coherent x.1))

  -- its word is small, so that its edge is what is left of it
  pub part_across_edge : (k e p w : ℕ) → HasEntry starts words (256 * k + e) p w → (own : ℕ) → own + (p + 1) ≡ part_count t k e
      → part_of t k e own ≡ Some (record { child = w % 256; edge = w / 256 })
  part_across_edge k e p w entry own mirrored =
      let x = some_of (part_of t k e own) (part_there t k e own (omega arith)) in
      let same = same_entry entry (has_part t k e own p x.0 starts words begin x.1 mirrored) in
      let s = small t k x.0.child x.0.edge coherent (rw ((coherent.outer_part k x.0.child x.0.edge e own).1 x.1) refl) in
      let child : x.0.child ≡ w % 256 = omega (arith, same, s.0) in
      let edge : x.0.edge ≡ w / 256 = omega (arith, same, s.0) in
      x.1 ∙ (λ i. Some (record { child = child i; edge = edge i }))

module _ (t : Tables) (kinds : List ℕ) (coherent : IsCoherent t) (spread : AreSpread (kind_rows t) kinds) where
  -- 256 times a child's kind is read at its cell
  pub kind_there : (k c : ℕ) → IsSome (child_kind_of t k c) → (row : ℕ) × (slice_get kinds (256 * k + c) ≡ Some (row + 255))
  kind_there k c h =
      let x = some_of (child_kind_of t k c) h in
      (256 * x.0, has_kind t k c x.0 kinds spread x.1)

  pub kind_read : (k c row : ℕ) → IsSome (child_kind_of t k c) → slice_get kinds (256 * k + c) ≡ Some (row + 255)
      → (child_kind_of t k c ≡ Some (row / 256)) × (row ≡ 256 * (row / 256)) × (row / 256 < 16)
  kind_read k c row h is =
      let x = some_of (child_kind_of t k c) h in
      let two : Some (row + 255) ≡ Some (last_cell x.0) = sym is ∙ has_kind t k c x.0 kinds spread x.1 in
      let last : row + 255 ≡ last_cell x.0 = cc in
      let same : row ≡ 256 * x.0 = omega (arith, last) in
      let kind : x.0 ≡ row / 256 = omega arith in
      (x.1 ∙ ap Some kind, omega arith, omega (arith, kind, coherent.child_exists k c x.0 x.1, coherent.at_most_16_kinds))

-- the edge of a part, and its number
pub part_edge : (t : Tables) (k e p : ℕ) → IsCoherent t → IsSome (part_of t k e p) → IsSome (type_of t k e)
part_edge t k e p coherent h =
    let x = some_of (part_of t k e p) h in
    coherent.outer_edge k x.0.child x.0.edge e p ((coherent.outer_part k x.0.child x.0.edge e p).1 x.1)

pub part_below : (t : Tables) (k e p : ℕ) → IsSome (part_of t k e p) → p < part_count t k e
unfolding part_count
part_below t k e p h = (part_bounds t k e p h).2
