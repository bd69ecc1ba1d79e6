use Rattle.std.proofs.Common.{arith}
use Rattle.transducer_core.proofs.flat_table.FlatTable.coherent.Goals as goal

pub returns : goal.returns
returns c = grind arith
