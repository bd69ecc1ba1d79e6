-- The blocks of a kind's lists as words.
use Rattle.std.specs.Prelude.{ℕ, List, map}
use Rattle.edge_tables.specs.declared.kind_rows.KindRows.{KindRows}
use Rattle.edge_tables.specs.Views.{as_contact, as_child_edge}
use Rattle.transducer_core.specs.declared.words.Which.{Which}
use Rattle.transducer_core.specs.declared.words.Which.TheVariants.{Contacts, Parts}
use Rattle.transducer_core.specs.Words.{contact_words, part_words}

-- the contact block of each child, or the part block of each edge, backwards
abbrev pub blocks_of : Which → KindRows → List (List ℕ)
blocks_of Contacts r = map (λ v. contact_words (map as_contact v.items)) r.contacts.items
blocks_of Parts r = map (λ v. part_words (map as_child_edge v.items)) r.parts.items
