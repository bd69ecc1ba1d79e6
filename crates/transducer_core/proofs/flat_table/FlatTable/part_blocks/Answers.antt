use Rattle.std.proofs.Common.{subst}
use Rattle.theory_addresses.specs.Tables.{Tables}
use Rattle.transducer_core.specs.FlatTables.{IsFlat}
use Rattle.transducer_core.proofs.FlatCounts.{different_parts}
use Rattle.transducer_core.proofs.flat_table.FlatTable.part_blocks.Goals as goal

pub returns : goal.returns
returns c =
    let flat = subst (λ (t : Tables). IsFlat t c.self.inside.lists c.self.inside.child_kinds
    c.self.inside.contacts c.self.inside.parts) c.self.view_is c.self.invariant in
    different_parts c.args.self.now c.self.inside.parts.starts.items c.self.inside.parts.words.items
    c.self.inside.parts.count flat.coherent flat.parts_at
