use Rattle.std.proofs.Common.{arith}
use Rattle.std.proofs.lemmas.Grind.{common_steps}
use Rattle.pair_machine.proofs.machine.PairMachine.nodes.Goals as goal

pub returns-clause-number : goal.returns-clause-number
returns-clause-number c = grind (arith, common_steps)

pub returns-clause-at_most_36864 : goal.returns-clause-at_most_36864
returns-clause-at_most_36864 c = grind (arith, common_steps)
