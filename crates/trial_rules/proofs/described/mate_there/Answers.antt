use Rattle.theory_addresses.proofs.TableBounds
use Rattle.trial_rules.proofs.described.mate_there.Goals as goal

pub mate-requires : goal.mate-requires
mate-requires c = record {
  exists = TableBounds.mate_there c.args.tables.now c.args.kind c.args.edge
      c.edge_type.result c.kinds.ensures.coherent c.edge_type.ensures;
}
