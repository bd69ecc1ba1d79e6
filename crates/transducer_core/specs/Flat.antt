-- Contact tables in flat lists.
use Rattle.std.specs.Prelude.{ℕ, ◌+◌, ◌-◌, ◌*◌, ◌/◌, List, [], ◌∷◌, ◌++◌, length, map, reverse, take, drop, get_or}
use Rattle.theory_addresses.specs.Contact.{Contact, ChildEdge}
use Rattle.theory_addresses.specs.Search.{below}
use Rattle.theory_addresses.specs.Tables.{Tables, KindTables}
use Rattle.transducer_core.specs.Words.{contact_of_word, part_of_word}

-- the lists of tables: the mates, the subdivision of each type, the types of the edges of each kind, and the
-- kinds of its children
abbrev pub lists_of : Tables → List (List ℕ)
lists_of t = t.mates ∷
    (t.subs ++ (map (λ (k : KindTables). k.types) t.kinds ++ map (λ (k : KindTables). k.children) t.kinds))

-- and back from such lists: the first has the mates
abbrev pub mates_in : List (List ℕ) → List ℕ
mates_in lists = get_or lists 0 []

-- then there is a subdivision for each mate
abbrev pub subs_in : List (List ℕ) → List (List ℕ)
subs_in lists = take (length (mates_in lists)) (drop 1 lists)

-- and then the kinds' lists, of which one half has the types and the other the children
abbrev pub sides_in : List (List ℕ) → List (List ℕ)
sides_in lists = drop (length (mates_in lists)) (drop 1 lists)

abbrev pub flat_types : List (List ℕ) → List (List ℕ)
flat_types lists = take (length (sides_in lists) / 2) (sides_in lists)

abbrev pub children_in : List (List ℕ) → List (List ℕ)
children_in lists = drop (length (sides_in lists) / 2) (sides_in lists)

-- the lists that follow one another, from one place on, by the end of each
abbrev pub pieces : List ℕ → ℕ → List ℕ → List (List ℕ)
pieces items from [] = []
pieces items from (e ∷ es) = take (e - from) (drop from items) ∷ pieces items e es

-- the lists of a flat table: mates, subdivisions, the types and the children of each kind; the start of each
-- block, and the words of the blocks
pub record Lists : Type 0 where
  pub mates : List ℕ
  pub subs : List (List ℕ)
  pub types : List (List ℕ)
  pub children : List (List ℕ)
  pub contact_starts : List ℕ
  pub contact_words : List ℕ
  pub part_starts : List ℕ
  pub part_words : List ℕ

-- the contact block of a child, which has a contact for each edge of the child's kind
abbrev pub flat_contacts : Lists → ℕ → ℕ → List Contact
flat_contacts f k c =
    let kind = get_or (get_or f.children k []) c 0 in
    map contact_of_word (take (length (get_or f.types kind []))
    (drop (get_or f.contact_starts (256 * k + c) 0) f.contact_words))

-- the part block of an edge, which has a part for each type of the subdivision, in reverse order
abbrev pub flat_parts : Lists → ℕ → ℕ → List ChildEdge
flat_parts f k e =
    let ty = get_or (get_or f.types k []) e 0 in
    reverse (map part_of_word
    (take (length (get_or f.subs ty [])) (drop (get_or f.part_starts (256 * k + e) 0) f.part_words)))

abbrev pub flat_kind : Lists → ℕ → KindTables
flat_kind f k = record {
  types = get_or f.types k [];
  children = get_or f.children k [];
  contacts = below (flat_contacts f k) (length (get_or f.children k []));
  parts = below (flat_parts f k) (length (get_or f.types k []));
}

-- the tables that the lists hold
unfoldable pub flat_tables : Lists → Tables
flat_tables f = record { mates = f.mates; subs = f.subs; kinds = below (flat_kind f) (length f.types) }
