-- Where things stand in tables, and the entries of blocks.
use Rattle.std.proofs.Common.{◌≡◌, ℕ, ◌+◌, ◌*◌, ◌-◌, ◌<◌, List, ◌++◌, length, map, reverse, get_or, Some, refl, sym, ap, ◌∙◌, arith}
use Rattle.std.specs.List.{slice_get}
use Rattle.std.proofs.lemmas.Option.{slice_get_within, slice_get-get_or, get_or_from_slice_get}
use Rattle.std.proofs.lemmas.List.{length-map, length-reverse, get_or-reverse}
use Rattle.theory_addresses.specs.Contact.{Contact, ChildEdge}
use Rattle.theory_addresses.specs.Tables.{Tables, KindTables, kind_tables, child_kinds, child_kind_of, contacts_of, parts_of, contact_of, part_of, part_count}
use Rattle.theory_addresses.proofs.Ranges.{slice_get-append_left, slice_get-image}
use Rattle.theory_addresses.proofs.TableBounds.{some_within, contact_bounds, part_bounds, child_bounds}
use Rattle.transducer_core.specs.FlatTables.{contact_rows, part_rows, kind_rows}
use Rattle.transducer_core.specs.Merged.{BlockStands, AllBegin, HasEntry, AreSpread, last_cell}
use Rattle.transducer_core.specs.Words.{word_of_contact, word_of_part, contact_words, part_words}
use Rattle.transducer_core.proofs.Strides.{slice_get-append_right}

-- ---- where things stand in the tables
pub kind_at : (t : Tables) (k : ℕ) → k < length t.kinds → slice_get t.kinds k ≡ Some (kind_tables t k)
unfolding kind_tables
kind_at t k h = rw (some_within t.kinds k h).1 refl

pub contacts_at : (t : Tables) (k c : ℕ) → c < length (kind_tables t k).contacts → slice_get (kind_tables t k).contacts c ≡ Some (contacts_of t k c)
unfolding contacts_of
contacts_at t k c h = rw (some_within (kind_tables t k).contacts c h).1 refl

pub parts_at : (t : Tables) (k e : ℕ) → e < length (kind_tables t k).parts → slice_get (kind_tables t k).parts e ≡ Some (parts_of t k e)
unfolding parts_of
parts_at t k e h = rw (some_within (kind_tables t k).parts e h).1 refl

-- ---- an entry of a block
pub stands_entry : (words : List ℕ) (s : ℕ) (block : List ℕ) (e w : ℕ) → BlockStands words s block
    → slice_get block e ≡ Some w → slice_get words (s + e) ≡ Some w
stands_entry words s block e w h is =
    rw (h.words_are, h.start_is) (slice_get-append_right h.front (block ++ h.rest) e
    ∙ slice_get-append_left block h.rest e (slice_get_within block e w is) ∙ is)

pub same_entry : {starts words : List ℕ} {at place w v : ℕ} → HasEntry starts words at place w → HasEntry starts words at place v → w ≡ v
same_entry {starts} {words} {at} {place} {w} {v} a b =
    let two : Some a.start ≡ Some b.start = sym a.start_at ∙ b.start_at in
    let one : a.start ≡ b.start = cc in
    let both : Some w ≡ Some v = sym a.word_at ∙ ap (λ s. slice_get words (s + place)) one ∙ b.word_at in
    cc

pub has_contact : (t : Tables) (k c e : ℕ) (x : Contact) (starts words : List ℕ) → AllBegin (contact_rows t) starts words
    → contact_of t k c e ≡ Some x → HasEntry starts words (256 * k + c) e (word_of_contact x)
unfolding contact_of
has_contact t k c e x starts words h is =
    let bounds = contact_bounds t k c e (rw is refl) in
    let row = slice_get-image (λ (r : KindTables). map contact_words r.contacts) (kind_tables t k) t.kinds k (kind_at t k bounds.0) in
    let block = slice_get-image contact_words (contacts_of t k c) (kind_tables t k).contacts c (contacts_at t k c bounds.1) in
    let b = h k c (map contact_words (kind_tables t k).contacts) (contact_words (contacts_of t k c)) row block in
    record {
      start = b.start;
      start_at = b.start_at;
      word_at = stands_entry words b.start (contact_words (contacts_of t k c)) e (word_of_contact x)
          b.stands (slice_get-image word_of_contact x (contacts_of t k c) e is);
    }

pub reversed : {A : Type 0} (xs : List A) (own p : ℕ) (x : A) → own + (p + 1) ≡ length xs
    → slice_get xs own ≡ Some x → slice_get (reverse xs) p ≡ Some x
reversed xs own p x count is =
    let inside : p < length xs = omega arith in
    let there = slice_get-get_or (reverse xs) p x (omega (arith, length-reverse xs)) in
    let place : length xs - 1 - p ≡ own = omega arith in
    there ∙ ap Some (get_or-reverse xs p x inside ∙ ap (λ i. get_or xs i x) place ∙ get_or_from_slice_get xs own x x is)

pub has_part : (t : Tables) (k e own p : ℕ) (x : ChildEdge) (starts words : List ℕ) → AllBegin (part_rows t) starts words
    → part_of t k e own ≡ Some x → own + (p + 1) ≡ part_count t k e → HasEntry starts words (256 * k + e) p (word_of_part x)
unfolding part_of part_count
has_part t k e own p x starts words h is mirrored =
    let bounds = part_bounds t k e own (rw is refl) in
    let row = slice_get-image (λ (r : KindTables). map part_words r.parts) (kind_tables t k) t.kinds k (kind_at t k bounds.0) in
    let block = slice_get-image part_words (parts_of t k e) (kind_tables t k).parts e (parts_at t k e bounds.1) in
    let b = h k e (map part_words (kind_tables t k).parts) (part_words (parts_of t k e)) row block in
    let entry = reversed (map word_of_part (parts_of t k e)) own p (word_of_part x)
    (mirrored ∙ sym (length-map (parts_of t k e) word_of_part))
    (slice_get-image word_of_part x (parts_of t k e) own is) in
    record {
      start = b.start;
      start_at = b.start_at;
      word_at = stands_entry words b.start (part_words (parts_of t k e)) p (word_of_part x) b.stands entry;
    }

-- the last cell of the row of a child's kind
pub has_kind : (t : Tables) (k c kind : ℕ) (kinds : List ℕ) → AreSpread (kind_rows t) kinds
    → child_kind_of t k c ≡ Some kind → slice_get kinds (256 * k + c) ≡ Some (last_cell kind)
unfolding child_kind_of
has_kind t k c kind kinds h is =
    let bounds = child_bounds t k c (rw is refl) in
    let row = slice_get-image (λ (r : KindTables). r.children) (kind_tables t k) t.kinds k (kind_at t k bounds.0) in
    h k c (map last_cell (kind_tables t k).children) (last_cell kind)
    (slice_get-image (map last_cell) (kind_tables t k).children (child_kinds t) k row)
    (slice_get-image last_cell kind (kind_tables t k).children c is)
