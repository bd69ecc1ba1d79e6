-- When flat lists are laid out right.
use Rattle.std.specs.Prelude.{ℕ, List, map, Vec}
use Rattle.std.specs.Global.{Global}
use Rattle.theory_addresses.specs.Coherent.{IsCoherent}
use Rattle.theory_addresses.specs.Tables.{Tables, KindTables, child_kinds}
use Rattle.transducer_core.specs.declared.joined.Joined.{Joined}
use Rattle.transducer_core.specs.declared.merging.Merged.{Merged}
use Rattle.transducer_core.specs.Flat.{Lists, lists_of, mates_in, subs_in, flat_types, children_in, pieces}
use Rattle.transducer_core.specs.Merged.{AreSpread, AreFilled, IsMerged, last_cell}
use Rattle.transducer_core.specs.Merging.{AreBlocksKept}
use Rattle.transducer_core.specs.Words.{contact_words, part_words}

-- the lists of the fields
abbrev pub lists_in : Joined → Merged → Merged → Lists
lists_in joined contacts parts =
    let lists = pieces joined.items.items 0 joined.ends.items in
    record {
      mates = mates_in lists;
      subs = subs_in lists;
      types = flat_types lists;
      children = children_in lists;
      contact_starts = contacts.starts.items;
      contact_words = contacts.words.items;
      part_starts = parts.starts.items;
      part_words = parts.words.items;
    }

-- the last cell of the row of each child's kind, for each kind
abbrev pub kind_rows : Tables → List (List ℕ)
kind_rows t = map (map last_cell) (child_kinds t)

-- the contact blocks of each kind as words, and the part blocks
abbrev pub contact_rows : Tables → List (List (List ℕ))
contact_rows t = map (λ (k : KindTables). map contact_words k.contacts) t.kinds

abbrev pub part_rows : Tables → List (List (List ℕ))
part_rows t = map (λ (k : KindTables). map part_words k.parts) t.kinds

-- The tables fit together. Their lists follow one another. The last cell of each child kind's row is at the
-- place at which it is looked up. So is each block, and equal blocks are kept once.
pub record IsFlat (t : Tables) (joined : Joined) (kinds : Vec ℕ Global)
    (contacts parts : Merged) : Type 0 where
  pub coherent : IsCoherent t
  pub lists_at : AreBlocksKept (lists_of t) joined.items.items joined.ends.items
  pub kinds_at : AreSpread (kind_rows t) kinds.items
  pub kinds_filled : AreFilled (kind_rows t) kinds.items
  pub contacts_at : IsMerged (contact_rows t) contacts.starts.items contacts.words.items contacts.count
  pub parts_at : IsMerged (part_rows t) parts.starts.items parts.words.items parts.count
