-- Entries of tables as words of 32 bits.
use Rattle.std.specs.Prelude.{ℕ, ◌+◌, ◌*◌, ◌/◌, ◌%◌, nat_lt, cond, List, map, reverse}
use Rattle.theory_addresses.specs.Contact.{Contact, ChildEdge, inner, outer}

-- the edge times 256, and the number of the part; of an inner contact that of the child, with 65536 on top
abbrev pub word_of_contact : Contact → ℕ
word_of_contact (inner child edge) = 65536 + edge * 256 + child
word_of_contact (outer edge part) = edge * 256 + part

abbrev pub contact_of_word : ℕ → Contact
contact_of_word w = cond (nat_lt w 65536) (outer (w / 256 % 256) (w % 256)) (inner (w % 256) (w / 256 % 256))

-- the edge times 256, and the child
abbrev pub word_of_part : ChildEdge → ℕ
word_of_part ce = ce.edge * 256 + ce.child

abbrev pub part_of_word : ℕ → ChildEdge
part_of_word w = record { child = w % 256; edge = w / 256 % 256 }

-- a contact block as words; and a part block in reverse order, so that its entries are numbered as the
-- opposite edge numbers its own parts
abbrev pub contact_words : List Contact → List ℕ
contact_words block = map word_of_contact block

abbrev pub part_words : List ChildEdge → List ℕ
part_words block = reverse (map word_of_part block)
