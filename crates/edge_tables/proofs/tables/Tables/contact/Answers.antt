use Rattle.std.proofs.Common.{arith}
use Rattle.theory_addresses.proofs.TableBounds.{contact_bounds}
use Rattle.edge_tables.proofs.Looks
use Rattle.edge_tables.proofs.tables.Tables.contact.Goals as goal

pub row-row-requires : goal.row-row-requires
row-row-requires g c = (contact_bounds c.args.self.now c.args.kind c.args.child c.args.edge c.requires.exists).0

pub index-contacts-requires : goal.index-contacts-requires
index-contacts-requires g c = omega (
  arith,
  Looks.contacts_inside c.args.self.now c.args.kind
      c.row-row.result.now c.row-row.ensures.lists c.args.child c.args.edge c.requires.exists,
)

pub index-requires : goal.index-requires
index-requires g c = omega (
  arith,
  Looks.contact_inside c.args.self.now c.args.kind c.row-row.result.now
      c.row-row.ensures.lists c.args.child c.args.edge c.index-contacts.result.now c.requires.exists
      c.index-contacts.ensures,
)

pub returns-clause-value : goal.returns-clause-value
returns-clause-value g c =
    Looks.contact_read c.args.self.now c.args.kind c.row-row.result.now c.row-row.ensures.lists c.args.child
    c.args.edge c.index-contacts.result.now c.index.result.now
    c.requires.exists c.index-contacts.ensures c.index.ensures
