-- The tables that flat lists hold.
use Rattle.std.proofs.Common.{◌≡◌, ℕ, zero, suc, ◌+◌, ◌*◌, ◌<◌, ◌≤◌, List, [], ◌∷◌, ◌++◌, length, map, reverse, take, drop, get_or, Some, refl, sym, ap, ◌∙◌, arith}
use Rattle.std.specs.List.{slice_get}
use Rattle.std.proofs.lemmas.Option.{slice_get_within, get_or_from_slice_get}
use Rattle.std.proofs.lemmas.List.{length-map, length-reverse, reverse-reverse, take_all}
use Rattle.theory_addresses.specs.Coherent.{IsCoherent}
use Rattle.theory_addresses.specs.Contact.{Contact, ChildEdge}
use Rattle.theory_addresses.specs.Search.{below}
use Rattle.theory_addresses.specs.Tables.{Tables, KindTables, kind_tables, type_of, child_kind_of, contacts_of, parts_of, contact_of, part_of, subs_of, child_type_of}
use Rattle.theory_addresses.proofs.Lists.{map-reverse}
use Rattle.theory_addresses.proofs.Ranges.{slice_get-image}
use Rattle.theory_addresses.proofs.TableBounds.{some_within}
use Rattle.transducer_core.specs.declared.joined.Joined.{Joined}
use Rattle.transducer_core.specs.declared.merging.Merged.{Merged}
use Rattle.transducer_core.specs.Flat.{Lists, lists_of, mates_in, subs_in, flat_types, children_in, flat_tables, flat_kind, flat_contacts, flat_parts}
use Rattle.transducer_core.specs.FlatTables.{lists_in}
use Rattle.transducer_core.specs.Merged.{IsMerged}
use Rattle.transducer_core.specs.Words.{word_of_contact, contact_of_word, word_of_part, part_of_word, contact_words, part_words}
use Rattle.transducer_core.proofs.FlatEntries.{kind_at}
use Rattle.transducer_core.proofs.FlatLooks.{contact_back, part_entry_back}
use Rattle.transducer_core.specs.Merging.{AreBlocksKept}
use Rattle.transducer_core.proofs.Joining.{pieces_are, subs_back, types_back, children_back}
use Rattle.transducer_core.proofs.Standing.{take_at, block_read}

-- ---- a list by its places
below_take : {A : Type 0} (f : ℕ → A) (xs : List A) (n : ℕ) → n ≤ length xs
    → ((k : ℕ) (x : A) → slice_get xs k ≡ Some x → f k ≡ x) → below f n ≡ take n xs
below_take f xs zero h same = refl
below_take f xs (suc n) h same =
    let x = some_within xs n (omega arith) in
    let more = take_at xs n x.0 x.1 in
    let e : suc n ≡ n + 1 = omega arith in
    ap (λ l. l ++ f n ∷ []) (below_take f xs n (omega arith) same)
    ∙ ap (λ y. take n xs ++ y ∷ []) (same n x.0 x.1) ∙ sym more ∙ ap (λ m. take m xs) (sym e)

below_all : {A : Type 0} (f : ℕ → A) (xs : List A) (n : ℕ) → n ≡ length xs → ((k : ℕ) (x : A) → slice_get xs k ≡ Some x → f k ≡ x) → below f n ≡ xs
below_all f xs n size same = below_take f xs n (omega arith) same ∙ take_all n xs (omega arith)

map_back : {A B : Type 0} (f : A → B) (g : B → A) (xs : List A) → ((i : ℕ) (x : A) → slice_get xs i ≡ Some x → g (f x) ≡ x) → map g (map f xs) ≡ xs
map_back f g [] h = refl
map_back f g (x ∷ xs) h = ap (λ y. y ∷ map g (map f xs)) (h 0 x refl) ∙ ap (λ l. x ∷ l) (map_back f g xs (λ i y is. h (suc i) y is))

pub contact_block_back : (t : Tables) (k c : ℕ) → IsCoherent t → map contact_of_word (contact_words (contacts_of t k c)) ≡ contacts_of t k c
unfolding contact_of
contact_block_back t k c coherent = map_back word_of_contact contact_of_word (contacts_of t k c) (λ e x is. contact_back t k c e x coherent is)

pub part_block_back : (t : Tables) (k e : ℕ) → IsCoherent t → reverse (map part_of_word (part_words (parts_of t k e))) ≡ parts_of t k e
unfolding part_of
part_block_back t k e coherent =
    ap reverse (map-reverse part_of_word (map word_of_part (parts_of t k e))) ∙ reverse-reverse (map part_of_word (map word_of_part (parts_of t k e)))
    ∙ map_back word_of_part part_of_word (parts_of t k e) (λ p x is. part_entry_back t k e p x coherent is)

pub kind_is : (t : Tables) (k : ℕ) (row : KindTables) → slice_get t.kinds k ≡ Some row → kind_tables t k ≡ row
unfolding kind_tables
kind_is t k row is = rw is refl

pub contacts_is : (t : Tables) (k c : ℕ) (block : List Contact) → slice_get (kind_tables t k).contacts c ≡ Some block → contacts_of t k c ≡ block
unfolding contacts_of
contacts_is t k c block is = rw is refl

pub parts_is : (t : Tables) (k e : ℕ) (block : List ChildEdge) → slice_get (kind_tables t k).parts e ≡ Some block → parts_of t k e ≡ block
unfolding parts_of
parts_is t k e block is = rw is refl

pub child_is : (t : Tables) (k c kind : ℕ) → slice_get (kind_tables t k).children c ≡ Some kind → child_kind_of t k c ≡ Some kind
unfolding child_kind_of
child_is t k c kind is = is

pub type_is : (t : Tables) (k e ty : ℕ) → slice_get (kind_tables t k).types e ≡ Some ty → type_of t k e ≡ Some ty
unfolding type_of
type_is t k e ty is = is

subs_are : (t : Tables) (ty : ℕ) → ty < length t.subs → get_or t.subs ty [] ≡ subs_of t ty
unfolding subs_of
subs_are t ty h = let x = some_within t.subs ty h in rw x.1 (get_or_from_slice_get t.subs ty x.0 [] x.1)

-- lists of tables
pub record Holds (t : Tables) (f : Lists) (m n : ℕ) : Type 0 where
  pub coherent : IsCoherent t
  pub mates : f.mates ≡ t.mates
  pub subs : f.subs ≡ t.subs
  pub types : f.types ≡ map (λ (k : KindTables). k.types) t.kinds
  pub children : f.children ≡ map (λ (k : KindTables). k.children) t.kinds
  pub contacts : IsMerged (map (λ (k : KindTables). map contact_words k.contacts) t.kinds) f.contact_starts f.contact_words m
  pub parts : IsMerged (map (λ (k : KindTables). map part_words k.parts) t.kinds) f.part_starts f.part_words n

module _ (t : Tables) (f : Lists) (m n : ℕ) (h : Holds t f m n) where
  types_of : (k : ℕ) → k < length t.kinds → get_or f.types k [] ≡ (kind_tables t k).types
  types_of k inside = rw h.types (get_or_from_slice_get (map (λ (r : KindTables). r.types) t.kinds) k
      (kind_tables t k).types [] (slice_get-image (λ (r : KindTables). r.types) (kind_tables t k) t.kinds k
      (kind_at t k inside)))

  children_of : (k : ℕ) → k < length t.kinds → get_or f.children k [] ≡ (kind_tables t k).children
  children_of k inside = rw h.children (get_or_from_slice_get (map (λ (r : KindTables). r.children) t.kinds) k
      (kind_tables t k).children [] (slice_get-image (λ (r : KindTables). r.children) (kind_tables t k)
      t.kinds k (kind_at t k inside)))

  contacts_made : (k c : ℕ) (block : List Contact) → k < length t.kinds
      → slice_get (kind_tables t k).contacts c ≡ Some block → flat_contacts f k c ≡ block
  contacts_made k c block inside is =
      let there : c < length (kind_tables t k).children = omega
      (arith, slice_get_within (kind_tables t k).contacts c block is, h.coherent.contacts_each k) in
      let kind = some_within (kind_tables t k).children c there in
      let child = child_is t k c kind.0 kind.1 in
      let exists = h.coherent.child_exists k c kind.0 child in
      let own : get_or (get_or f.children k []) c 0 ≡ kind.0 = rw (children_of k inside)
      (get_or_from_slice_get (kind_tables t k).children c kind.0 0 kind.1) in
      let same = contacts_is t k c block is in
      let size : length (get_or f.types (get_or (get_or f.children k []) c 0) []) ≡ length (contact_words (contacts_of t k c)) =
      rw (own, types_of kind.0 exists) (sym (h.coherent.contact_each k c kind.0 child) ∙ sym (length-map (contacts_of t k c) word_of_contact)) in
      let b = h.contacts.begins k c (map contact_words (kind_tables t k).contacts) (contact_words (contacts_of t k c))
      (slice_get-image (λ (r : KindTables). map contact_words r.contacts) (kind_tables t k) t.kinds k (kind_at t k inside))
      (slice_get-image contact_words (contacts_of t k c) (kind_tables t k).contacts c (rw same is)) in
      let start : get_or f.contact_starts (256 * k + c) 0 ≡ b.start = get_or_from_slice_get f.contact_starts (256 * k + c) b.start 0 b.start_at in
      let read = block_read f.contact_words b.start
      (length (get_or f.types (get_or (get_or f.children k []) c 0) []))
      (contact_words (contacts_of t k c)) b.stands size in
      ap (map contact_of_word) (ap (λ s. take (length
      (get_or f.types (get_or (get_or f.children k []) c 0) [])) (drop s f.contact_words)) start ∙ read)
      ∙ contact_block_back t k c h.coherent ∙ same

  parts_made : (k e : ℕ) (block : List ChildEdge) → k < length t.kinds → slice_get (kind_tables t k).parts e ≡ Some block → flat_parts f k e ≡ block
  parts_made k e block inside is =
      let there : e < length (kind_tables t k).types = omega
      (arith, slice_get_within (kind_tables t k).parts e block is, h.coherent.parts_each k inside) in
      let ty = some_within (kind_tables t k).types e there in
      let edge = type_is t k e ty.0 ty.1 in
      let exists : ty.0 < length t.subs = omega (arith, h.coherent.type_exists k e ty.0 edge, h.coherent.sub_each) in
      let own : get_or (get_or f.types k []) e 0 ≡ ty.0 = rw (types_of k inside) (get_or_from_slice_get (kind_tables t k).types e ty.0 0 ty.1) in
      let same = parts_is t k e block is in
      let count : length (parts_of t k e) ≡ length (subs_of t ty.0) = sym
      (length-map (parts_of t k e) (child_type_of t k))
      ∙ ap (λ l. length l) (h.coherent.part_types k e ty.0 edge) ∙ length-map (subs_of t ty.0) Some in
      let size : length (get_or f.subs (get_or (get_or f.types k []) e 0) []) ≡ length (part_words (parts_of t k e)) =
      rw (own, h.subs, subs_are t ty.0 exists) (sym count ∙ sym (length-map (parts_of t k e) word_of_part)
      ∙ sym (length-reverse (map word_of_part (parts_of t k e)))) in
      let b = h.parts.begins k e (map part_words (kind_tables t k).parts) (part_words (parts_of t k e))
      (slice_get-image (λ (r : KindTables). map part_words r.parts) (kind_tables t k) t.kinds k (kind_at t k inside))
      (slice_get-image part_words (parts_of t k e) (kind_tables t k).parts e (rw same is)) in
      let start : get_or f.part_starts (256 * k + e) 0 ≡ b.start = get_or_from_slice_get f.part_starts (256 * k + e) b.start 0 b.start_at in
      let read = block_read f.part_words b.start
      (length (get_or f.subs (get_or (get_or f.types k []) e 0) [])) (part_words (parts_of t k e))
      b.stands size in
      ap (λ l. reverse (map part_of_word l)) (ap
      (λ s. take (length (get_or f.subs (get_or (get_or f.types k []) e 0) [])) (drop s f.part_words))
      start ∙ read) ∙ part_block_back t k e h.coherent ∙ same

  kind_made : (k : ℕ) (row : KindTables) → slice_get t.kinds k ≡ Some row → flat_kind f k ≡ row
  kind_made k row is =
      let inside = slice_get_within t.kinds k row is in
      let same = kind_is t k row is in
      let types = types_of k inside in
      let children = children_of k inside in
      let contacts = below_all (flat_contacts f k) (kind_tables t k).contacts
      (length (get_or f.children k [])) (rw children (sym (h.coherent.contacts_each k)))
      (λ c block there. contacts_made k c block inside there) in
      let parts = below_all (flat_parts f k) (kind_tables t k).parts (length (get_or f.types k []))
      (rw types (sym (h.coherent.parts_each k inside)))
      (λ e block there. parts_made k e block inside there) in
      let made : flat_kind f k ≡ kind_tables t k = λ i. record { types = types i; children = children i; contacts = contacts i; parts = parts i } in
      made ∙ same

  pub flat_is : flat_tables f ≡ t
  unfolding flat_tables
  flat_is =
      let size : length f.types ≡ length t.kinds = ap (λ l. length l) h.types ∙ length-map t.kinds (λ (k : KindTables). k.types) in
      let kinds = below_all (flat_kind f) t.kinds (length f.types) size kind_made in
      λ i. record { mates = h.mates i; subs = h.subs i; kinds = kinds i }

-- the tables that the fields hold
pub made : (t : Tables) (joined : Joined) (contacts parts : Merged) → IsCoherent t → AreBlocksKept (lists_of t) joined.items.items joined.ends.items
    → IsMerged (map (λ (k : KindTables). map contact_words k.contacts) t.kinds) contacts.starts.items contacts.words.items contacts.count
    → IsMerged (map (λ (k : KindTables). map part_words k.parts) t.kinds) parts.starts.items parts.words.items parts.count
    → flat_tables (lists_in joined contacts parts) ≡ t
made t joined contacts parts coherent lists contacts_at parts_at =
    let read = pieces_are (lists_of t) joined.items.items joined.ends.items lists in
    flat_is t (lists_in joined contacts parts) contacts.count parts.count (record {
      coherent = coherent;
      mates = ap mates_in read;
      subs = ap subs_in read ∙ subs_back t coherent;
      types = ap flat_types read ∙ types_back t coherent;
      children = ap children_in read ∙ children_back t coherent;
      contacts = contacts_at;
      parts = parts_at;
    })
