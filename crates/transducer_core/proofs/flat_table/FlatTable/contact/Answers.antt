use Rattle.edge_tables.specs.Views.{as_contact}
use Rattle.transducer_core.proofs.FlatLooks
use Rattle.transducer_core.proofs.flat_table.FlatTable.contact.Goals as goal

pub look_up-requires : goal.look_up-requires
look_up-requires g c =
    let there = FlatLooks.contact_there c.args.self.now c.contacts-contacts.result.starts.now
    c.contacts-contacts.result.words.now c.coherent.ensures c.contacts-contacts.ensures c.args.kind
    c.args.child c.args.edge c.requires.exists in
    (there.0, rw (c.cell.ensures, c.from.ensures) there.1)

pub returns-clause-value : goal.returns-clause-value
returns-clause-value g c =
    let entry = rw (c.cell.ensures, c.from.ensures) at c.look_up.ensures.value in
    FlatLooks.contact_read c.args.self.now c.contacts-contacts.result.starts.now
    c.contacts-contacts.result.words.now c.coherent.ensures c.contacts-contacts.ensures c.args.kind
    c.args.child c.args.edge c.look_up.result (as_contact c.contact_in.result)
    c.requires.exists entry c.contact_in.ensures
