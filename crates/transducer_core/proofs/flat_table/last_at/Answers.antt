use Rattle.std.proofs.Common.{arith}
use Rattle.std.proofs.lemmas.Grind.{elements}
use Rattle.transducer_core.proofs.flat_table.last_at.Goals as goal

pub returns-clause-there : goal.returns-clause-there
returns-clause-there c = grind (arith, elements)
