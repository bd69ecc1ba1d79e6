use Rattle.std.proofs.Common.{arith}
use Rattle.std.proofs.lemmas.Grind.{common_steps}
use Rattle.half_glue.proofs.pairs.put.Goals as goal

pub returns-in_ok-push-in-Given : goal.returns-in_ok-push-in-Given
returns-in_ok-push-in-Given c = grind (arith, common_steps)

pub returns-in_ok-push-in-Crossed-2 : goal.returns-in_ok-push-in-Crossed-2
returns-in_ok-push-in-Crossed-2 c = grind (arith, common_steps)
