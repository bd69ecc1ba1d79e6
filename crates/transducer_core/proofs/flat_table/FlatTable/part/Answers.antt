use Rattle.std.proofs.Common.{arith}
use Rattle.edge_tables.specs.Views.{as_child_edge}
use Rattle.transducer_core.proofs.FlatLooks
use Rattle.transducer_core.proofs.flat_table.FlatTable.part.Goals as goal

pub part_count-requires : goal.part_count-requires
part_count-requires g c = record {
  exists = FlatLooks.part_edge c.args.self.now c.args.kind c.args.edge
      c.args.part c.coherent.ensures c.requires.exists;
}

pub mirror-across-requires : goal.mirror-across-requires
mirror-across-requires g c = omega (
  arith,
  FlatLooks.part_below c.args.self.now c.args.kind c.args.edge
      c.args.part c.requires.exists,
  c.part_count.ensures,
)

pub look_up-requires : goal.look_up-requires
look_up-requires g c =
    let there = FlatLooks.part_across_there c.args.self.now c.parts-parts.result.starts.now
    c.parts-parts.result.words.now c.coherent.ensures c.parts-parts.ensures c.args.kind c.args.edge
    c.mirror-across.result (omega (arith, c.mirror-across.ensures, c.part_count.ensures)) in
    (there.0, rw (c.cell.ensures, c.from.ensures) there.1)

pub returns-clause-value : goal.returns-clause-value
returns-clause-value g c =
    let entry = rw (c.cell.ensures, c.from.ensures) at c.look_up.ensures.value in
    FlatLooks.part_across_read c.args.self.now c.parts-parts.result.starts.now c.parts-parts.result.words.now
    c.coherent.ensures c.parts-parts.ensures c.args.kind c.args.edge c.mirror-across.result
    c.look_up.result (as_child_edge c.part_in.result)
    entry c.part_in.ensures c.args.part (omega (arith, c.mirror-across.ensures, c.part_count.ensures))
