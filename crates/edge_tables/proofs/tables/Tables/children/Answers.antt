use Rattle.std.proofs.Common.{length, ap, arith}
use Rattle.theory_addresses.specs.Tables.{KindTables}
use Rattle.edge_tables.proofs.Looks
use Rattle.edge_tables.proofs.tables.Tables.children.Goals as goal

pub overflow_cast-result : goal.overflow_cast-result
overflow_cast-result c = omega (
  arith,
  c.row.ensures.coherent.at_most_16_children c.args.kind
      c.requires.exists,
  ap (λ (m : KindTables). length m.children) c.row.ensures.lists,
)

pub returns-clause-exist : goal.returns-clause-exist
returns-clause-exist c = λ n. (
  λ there. omega (arith, Looks.child_inside c.args.self.now c.args.kind c.row.result.now c.row.ensures.lists n there),
  λ below. Looks.child_there c.args.self.now c.args.kind c.row.result.now c.row.ensures.lists n (omega arith),
)
