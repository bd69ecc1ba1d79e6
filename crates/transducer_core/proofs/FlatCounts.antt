-- The blocks of tables, as they are written and counted.
use Rattle.std.proofs.Common.{◌≡◌, ℕ, ◌≤◌, ◌<◌, List, [], ◌∷◌, length, map, reverse, Some, refl, sym, ap, ◌∙◌, arith, Vec, Global}
use Rattle.std.specs.List.{slice_get, AllByRecursion}
use Rattle.std.proofs.lemmas.List.{length-map, length-reverse}
use Rattle.std.proofs.lemmas.Option.{slice_get_within}
use Rattle.edge_tables.specs.declared.kind_rows.KindRows.{KindRows}
use Rattle.edge_tables.specs.declared.contact.Contact as program
use Rattle.edge_tables.specs.declared.child_edge.ChildEdge as written
use Rattle.edge_tables.specs.Views.{as_contact, as_child_edge, as_kind_tables}
use Rattle.theory_addresses.specs.Coherent.{IsCoherent}
use Rattle.theory_addresses.specs.Contact.{Contact, ChildEdge}
use Rattle.theory_addresses.specs.Search.{IsAmong}
use Rattle.theory_addresses.specs.Tables.{Tables, KindTables, kind_tables, part_count}
use Rattle.theory_addresses.proofs.Lists.{AllByRecursion-from}
use Rattle.theory_addresses.proofs.Ranges.{among-place, image-at, among-flat_map, slice_get-image}
use Rattle.theory_addresses.proofs.TableBounds.{some_within, part_count-within}
use Rattle.transducer_core.specs.Blocks.{contact_blocks, part_blocks}
use Rattle.transducer_core.specs.Merged.{IsMerged, last_cell}
use Rattle.transducer_core.specs.Merging.{AreShort, AreSmall}
use Rattle.transducer_core.specs.Once.{AreOnce, HasDifferent}
use Rattle.transducer_core.specs.Words.{word_of_contact, contact_of_word, word_of_part, part_of_word, contact_words, part_words}
use Rattle.transducer_core.proofs.FlatMade.{kind_is, contacts_is, parts_is, child_is, type_is, contact_block_back, part_block_back}
use Rattle.transducer_core.proofs.Once.{once_back, flat_map-image}

-- ---- as they are written
pub written_contacts : (rows : List KindRows)
    → map (λ r. map (λ v. contact_words (map as_contact v.items)) r.contacts.items) rows ≡ map
    (λ (k : KindTables). map contact_words k.contacts) (map as_kind_tables rows)
written_contacts [] = refl
written_contacts (r ∷ rows) = λ i. inner r.contacts.items i ∷ written_contacts rows i
  where
    inner : (vs : List (Vec program.Contact Global))
        → map (λ v. contact_words (map as_contact v.items)) vs ≡ map contact_words
        (map (λ v. map as_contact v.items) vs)
    inner [] = refl
    inner (v ∷ vs) = ap (λ l. contact_words (map as_contact v.items) ∷ l) (inner vs)

pub written_parts : (rows : List KindRows) → map
    (λ r. map (λ v. part_words (map as_child_edge v.items)) r.parts.items) rows ≡ map
    (λ (k : KindTables). map part_words k.parts) (map as_kind_tables rows)
written_parts [] = refl
written_parts (r ∷ rows) = λ i. inner r.parts.items i ∷ written_parts rows i
  where
    inner : (vs : List (Vec written.ChildEdge Global))
        → map (λ v. part_words (map as_child_edge v.items)) vs ≡ map part_words
        (map (λ v. map as_child_edge v.items) vs)
    inner [] = refl
    inner (v ∷ vs) = ap (λ l. part_words (map as_child_edge v.items) ∷ l) (inner vs)

-- ---- they are few and short
pub scaled : (ks : List KindTables) → map (map last_cell) (map (λ (k : KindTables). k.children) ks) ≡ map
    (λ (k : KindTables). map last_cell k.children) ks
scaled [] = refl
scaled (k ∷ ks) = ap (λ l. map last_cell k.children ∷ l) (scaled ks)

pub written_kinds : (rows : List KindRows) → map (λ r. map last_cell r.children.items) rows ≡ map
    (λ (k : KindTables). map last_cell k.children) (map as_kind_tables rows)
written_kinds [] = refl
written_kinds (r ∷ rows) = ap (λ l. map last_cell r.children.items ∷ l) (written_kinds rows)

pub short_children : (t : Tables) (rows : List KindRows) → IsCoherent t → map as_kind_tables rows ≡ t.kinds
    → AllByRecursion (λ r. length r.children.items ≤ 256) rows
short_children t rows coherent are = AllByRecursion-from (λ r. length r.children.items ≤ 256) rows (λ x i.
    let place = among-place x rows i in
    let at : slice_get t.kinds place.0 ≡ Some (as_kind_tables x) = rw (← are) (slice_get-image as_kind_tables x rows place.0 place.1) in
    let same = kind_is t place.0 (as_kind_tables x) at in
    omega (
      arith,
      coherent.at_most_16_children place.0
          (slice_get_within t.kinds place.0 (as_kind_tables x) at),
      ap (λ (k : KindTables). length k.children)
          same,
    ))

block_length : (t : Tables) (k c : ℕ) (block : List Contact) → IsCoherent t → k < length t.kinds
    → slice_get (kind_tables t k).contacts c ≡ Some block → length block ≤ 16
block_length t k c block coherent inside is =
    let there : c < length (kind_tables t k).children = omega
    (arith, slice_get_within (kind_tables t k).contacts c block is, coherent.contacts_each k) in
    let kind = some_within (kind_tables t k).children c there in
    let child = child_is t k c kind.0 kind.1 in
    omega (
      arith,
      coherent.contact_each k c kind.0 child,
      ap (λ l. length l) (contacts_is t k c block is),
      coherent.at_most_12_edges kind.0 (coherent.child_exists k c kind.0 child),
    )

part_length : (t : Tables) (k e : ℕ) (block : List ChildEdge) → IsCoherent t → k < length t.kinds
    → slice_get (kind_tables t k).parts e ≡ Some block → length block ≤ 16
unfolding part_count
part_length t k e block coherent inside is =
    let there : e < length (kind_tables t k).types = omega
    (arith, slice_get_within (kind_tables t k).parts e block is, coherent.parts_each k inside) in
    let ty = some_within (kind_tables t k).types e there in
    omega (arith, (part_count-within t k e coherent (rw (type_is t k e ty.0 ty.1) refl)).1, ap (λ l. length l) (parts_is t k e block is))

-- blocks written by f, of lists that a kind has
record Row {B : Type 0} (t : Tables) (f : B → List ℕ) (blocks : KindTables → List B) (row : List (List ℕ)) : Type 0 where
  number : ℕ
  inside : number < length t.kinds
  is : row ≡ map f (blocks (kind_tables t number))

row_of : {B : Type 0} (t : Tables) (f : B → List ℕ) (blocks : KindTables → List B) (row : List (List ℕ))
    → IsAmong row (map (λ (k : KindTables). map f (blocks k)) t.kinds) → Row t f blocks row
row_of t f blocks row i =
    let place = among-place row (map (λ (k : KindTables). map f (blocks k)) t.kinds) i in
    let one = image-at (λ (k : KindTables). map f (blocks k)) row t.kinds place.0 place.1 in
    record {
      number = place.0;
      inside = slice_get_within t.kinds place.0 one.source one.at;
      is = sym one.image
          ∙ ap (λ (k : KindTables). map f (blocks k)) (sym (kind_is t place.0 one.source one.at));
    }

small_by : {B : Type 0} (t : Tables) (f : B → List ℕ) (blocks : KindTables → List B) → length t.kinds ≤ 16
    → ((k : ℕ) → k < length t.kinds → length (blocks (kind_tables t k)) ≤ 16)
    → ((k c : ℕ) (b : B) → k < length t.kinds → slice_get (blocks (kind_tables t k)) c ≡ Some b
    → length (f b) ≤ 16) → AreSmall (map (λ (k : KindTables). map f (blocks k)) t.kinds)
small_by {B} t f blocks few each short = record {
  few = omega (arith, few, length-map t.kinds (λ (k : KindTables). map f (blocks k)));
  few_in_each = AllByRecursion-from (λ (row : List (List ℕ)). length row ≤ 16) (map (λ (k : KindTables). map f (blocks k)) t.kinds) (λ row i.
      let r = row_of t f blocks row i in
      omega (arith, each r.number r.inside, length-map (blocks (kind_tables t r.number)) f, ap (λ l. length l) r.is));
  short = AllByRecursion-from AreShort (map (λ (k : KindTables). map f (blocks k)) t.kinds)
      (λ row i. AllByRecursion-from (λ (b : List ℕ). length b ≤ 16) row (λ b j.
      let r = row_of t f blocks row i in
      let place = among-place b row j in
      let at : slice_get (map f (blocks (kind_tables t r.number))) place.0 ≡ Some b = ap (λ l. slice_get l place.0) (sym r.is) ∙ place.1 in
      let one = image-at f b (blocks (kind_tables t r.number)) place.0 at in
      omega (arith, short r.number place.0 one.source r.inside one.at, ap (λ l. length l) one.image)));
}

pub small_contacts : (t : Tables) → IsCoherent t → AreSmall (map (λ (k : KindTables). map contact_words k.contacts) t.kinds)
small_contacts t coherent = small_by t contact_words (λ (k : KindTables). k.contacts) coherent.at_most_16_kinds
    (λ k inside. omega (arith, coherent.contacts_each k, coherent.at_most_16_children k inside))
    (λ k c b inside is. omega (arith, block_length t k c b coherent inside is, length-map b word_of_contact))

pub small_parts : (t : Tables) → IsCoherent t → AreSmall (map (λ (k : KindTables). map part_words k.parts) t.kinds)
small_parts t coherent = small_by t part_words (λ (k : KindTables). k.parts) coherent.at_most_16_kinds
    (λ k inside. omega (arith, coherent.parts_each k inside, coherent.at_most_12_edges k inside))
    (λ k c b inside is. omega (arith, part_length t k c b coherent inside is, length-map b word_of_part, length-reverse (map word_of_part b)))

-- ---- how many different ones there are
pub different_contacts : (t : Tables) (starts words : List ℕ) (count : ℕ) → IsCoherent t
    → IsMerged (map (λ (k : KindTables). map contact_words k.contacts) t.kinds) starts words count
    → HasDifferent (contact_blocks t) count
different_contacts t starts words count coherent h =
    let o = h.once_each in
    let once : AreOnce (map contact_words (contact_blocks t)) o.kept = rw
    (flat_map-image contact_words (λ (k : KindTables). k.contacts) t.kinds) at o.once in (
      map (map contact_of_word) o.kept,
      once_back contact_words (map contact_of_word) (contact_blocks t) o.kept
          back once,
      o.count_is ∙ sym (length-map o.kept (map contact_of_word)),
    )
  where
    back : (x : List Contact) → IsAmong x (contact_blocks t) → map contact_of_word (contact_words x) ≡ x
    back x i =
        let piece = among-flat_map (λ (k : KindTables). k.contacts) x t.kinds i in
        let k = among-place piece.piece t.kinds piece.among in
        let c = among-place x piece.piece.contacts piece.inside in
        let same = contacts_is t k.0 c.0 x (rw (kind_is t k.0 piece.piece k.1) c.1) in
        rw same at (contact_block_back t k.0 c.0 coherent)

pub different_parts : (t : Tables) (starts words : List ℕ) (count : ℕ) → IsCoherent t
    → IsMerged (map (λ (k : KindTables). map part_words k.parts) t.kinds) starts words count
    → HasDifferent (part_blocks t) count
different_parts t starts words count coherent h =
    let o = h.once_each in
    let once : AreOnce (map part_words (part_blocks t)) o.kept = rw (flat_map-image part_words (λ (k : KindTables). k.parts) t.kinds) at o.once in (
      map (λ ws. reverse (map part_of_word ws)) o.kept,
      once_back part_words
          (λ ws. reverse (map part_of_word ws)) (part_blocks t) o.kept back once,
      o.count_is
          ∙ sym (length-map o.kept (λ ws. reverse (map part_of_word ws))),
    )
  where
    back : (x : List ChildEdge) → IsAmong x (part_blocks t) → reverse (map part_of_word (part_words x)) ≡ x
    back x i =
        let piece = among-flat_map (λ (k : KindTables). k.parts) x t.kinds i in
        let k = among-place piece.piece t.kinds piece.among in
        let c = among-place x piece.piece.parts piece.inside in
        let same = parts_is t k.0 c.0 x (rw (kind_is t k.0 piece.piece k.1) c.1) in
        rw same at (part_block_back t k.0 c.0 coherent)
