use Rattle.std.proofs.Common.{arith}
use Rattle.theory_addresses.proofs.TableBounds.{part_bounds}
use Rattle.edge_tables.proofs.Looks
use Rattle.edge_tables.proofs.tables.Tables.part.Goals as goal

pub row-row-requires : goal.row-row-requires
row-row-requires g c = (part_bounds c.args.self.now c.args.kind c.args.edge c.args.part c.requires.exists).0

pub index-parts-requires : goal.index-parts-requires
index-parts-requires g c = omega (
  arith,
  Looks.parts_inside c.args.self.now c.args.kind c.row-row.result.now
      c.row-row.ensures.lists c.args.edge c.args.part c.requires.exists,
)

pub index-requires : goal.index-requires
index-requires g c = omega (
  arith,
  Looks.part_inside c.args.self.now c.args.kind c.row-row.result.now
      c.row-row.ensures.lists c.args.edge c.args.part c.index-parts.result.now c.requires.exists
      c.index-parts.ensures,
)

pub returns-clause-value : goal.returns-clause-value
returns-clause-value g c =
    Looks.part_read c.args.self.now c.args.kind c.row-row.result.now c.row-row.ensures.lists c.args.edge
    c.args.part c.index-parts.result.now c.index.result.now
    c.requires.exists c.index-parts.ensures c.index.ensures
