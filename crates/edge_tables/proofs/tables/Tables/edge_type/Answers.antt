use Rattle.std.proofs.Common.{arith}
use Rattle.theory_addresses.proofs.TableBounds.{type_bounds}
use Rattle.edge_tables.proofs.Looks
use Rattle.edge_tables.proofs.tables.Tables.edge_type.Goals as goal

pub row-row-requires : goal.row-row-requires
row-row-requires c = (type_bounds c.args.self.now c.args.kind c.args.edge c.requires.exists).0

pub index-requires : goal.index-requires
index-requires c = omega (
  arith,
  Looks.edge_inside c.args.self.now c.args.kind c.row-row.result.now
      c.row-row.ensures.lists c.args.edge c.requires.exists,
)

pub returns : goal.returns
returns c =
    Looks.edge_read c.args.self.now c.args.kind c.row-row.result.now c.row-row.ensures.lists c.args.edge c.index.result.now
    (Looks.edge_inside c.args.self.now c.args.kind c.row-row.result.now c.row-row.ensures.lists c.args.edge c.requires.exists) c.index.ensures
