use Rattle.std.proofs.Common.{arith}
use Rattle.std.proofs.lemmas.Grind.{elements}
use Rattle.transducer_core.proofs.words.write_block.Goals as goal

pub returns-in-Contacts : goal.returns-in-Contacts
returns-in-Contacts c = grind (arith, elements)

pub returns-in-Parts : goal.returns-in-Parts
returns-in-Parts c = grind (arith, elements)
