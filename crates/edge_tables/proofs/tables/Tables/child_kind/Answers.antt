use Rattle.std.proofs.Common.{arith}
use Rattle.theory_addresses.proofs.TableBounds.{child_bounds}
use Rattle.edge_tables.proofs.Looks
use Rattle.edge_tables.proofs.tables.Tables.child_kind.Goals as goal

pub row-row-requires : goal.row-row-requires
row-row-requires c = (child_bounds c.args.self.now c.args.kind c.args.child c.requires.exists).0

pub index-requires : goal.index-requires
index-requires c = omega (
  arith,
  Looks.child_inside c.args.self.now c.args.kind c.row-row.result.now
      c.row-row.ensures.lists c.args.child c.requires.exists,
)

pub returns : goal.returns
returns c =
    Looks.child_read c.args.self.now c.args.kind c.row-row.result.now c.row-row.ensures.lists c.args.child c.index.result.now
    (Looks.child_inside c.args.self.now c.args.kind c.row-row.result.now c.row-row.ensures.lists c.args.child c.requires.exists) c.index.ensures
