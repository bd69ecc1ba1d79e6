use Rattle.std.proofs.Common.{◌≡◌, ◌++◌, map, take}
use Rattle.edge_tables.specs.Views.{as_contact}
use Rattle.transducer_core.specs.Words.{contact_words}
use Rattle.transducer_core.proofs.words.write_contacts.Given as goal

abbrev pub invariant-loop-contact : goal.invariant-loop-contact
invariant-loop-contact l = l.words.items ≡ l.fn.words.items ++ contact_words (map as_contact (take l.contact-index l.block.items))
