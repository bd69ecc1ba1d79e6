use Rattle.std.proofs.Common.{arith}
use Rattle.theory_addresses.proofs.TableBounds.{type_bounds, part_count-within}
use Rattle.edge_tables.proofs.Looks
use Rattle.edge_tables.proofs.tables.Tables.parts.Goals as goal

pub row-row-requires : goal.row-row-requires
row-row-requires c = (type_bounds c.args.self.now c.args.kind c.args.edge c.requires.exists).0

pub index-requires : goal.index-requires
index-requires c = omega (
  arith,
  Looks.edge_parts_inside c.args.self.now c.args.kind c.row-row.result.now
      c.row-row.ensures.lists c.args.edge c.row-row.ensures.coherent c.requires.exists,
)

pub overflow_cast-result : goal.overflow_cast-result
overflow_cast-result c =
    let count = Looks.part_count-read c.args.self.now c.args.kind c.row-row.result.now c.row-row.ensures.lists
    c.args.edge c.index.result.now c.row-row.ensures.coherent c.requires.exists c.index.ensures in
    omega (arith, count, (part_count-within c.args.self.now c.args.kind c.args.edge c.row-row.ensures.coherent c.requires.exists).1)

pub returns-clause-count : goal.returns-clause-count
returns-clause-count c = omega (
  arith,
  Looks.part_count-read c.args.self.now c.args.kind c.row-row.result.now
      c.row-row.ensures.lists c.args.edge c.index.result.now c.row-row.ensures.coherent c.requires.exists
      c.index.ensures,
)

pub returns-clause-some : goal.returns-clause-some
returns-clause-some c =
    let count = Looks.part_count-read c.args.self.now c.args.kind c.row-row.result.now c.row-row.ensures.lists
    c.args.edge c.index.result.now c.row-row.ensures.coherent c.requires.exists c.index.ensures in
    omega (arith, count, (part_count-within c.args.self.now c.args.kind c.args.edge c.row-row.ensures.coherent c.requires.exists).0)

pub returns-clause-at_most_8 : goal.returns-clause-at_most_8
returns-clause-at_most_8 c =
    let count = Looks.part_count-read c.args.self.now c.args.kind c.row-row.result.now c.row-row.ensures.lists
    c.args.edge c.index.result.now c.row-row.ensures.coherent c.requires.exists c.index.ensures in
    omega (arith, count, (part_count-within c.args.self.now c.args.kind c.args.edge c.row-row.ensures.coherent c.requires.exists).1)
