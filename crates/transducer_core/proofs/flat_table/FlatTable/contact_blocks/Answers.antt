use Rattle.std.proofs.Common.{subst}
use Rattle.theory_addresses.specs.Tables.{Tables}
use Rattle.transducer_core.specs.FlatTables.{IsFlat}
use Rattle.transducer_core.proofs.FlatCounts.{different_contacts}
use Rattle.transducer_core.proofs.flat_table.FlatTable.contact_blocks.Goals as goal

pub returns : goal.returns
returns c =
    let flat = subst (λ (t : Tables). IsFlat t c.self.inside.lists c.self.inside.child_kinds
    c.self.inside.contacts c.self.inside.parts) c.self.view_is c.self.invariant in
    different_contacts c.args.self.now c.self.inside.contacts.starts.items c.self.inside.contacts.words.items
    c.self.inside.contacts.count flat.coherent flat.contacts_at
