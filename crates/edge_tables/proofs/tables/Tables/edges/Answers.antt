use Rattle.std.proofs.Common.{length, ap, arith}
use Rattle.theory_addresses.specs.Tables.{KindTables}
use Rattle.edge_tables.proofs.Looks
use Rattle.edge_tables.proofs.tables.Tables.edges.Goals as goal

pub overflow_cast-result : goal.overflow_cast-result
overflow_cast-result c = omega (
  arith,
  c.row.ensures.coherent.at_most_12_edges c.args.kind c.requires.exists,
  ap (λ (m : KindTables). length m.types) c.row.ensures.lists,
)

pub returns-clause-exist : goal.returns-clause-exist
returns-clause-exist c = λ n. (
  λ there. omega (arith, Looks.edge_inside c.args.self.now c.args.kind c.row.result.now c.row.ensures.lists n there),
  λ below. Looks.edge_there c.args.self.now c.args.kind c.row.result.now c.row.ensures.lists n (omega arith),
)
