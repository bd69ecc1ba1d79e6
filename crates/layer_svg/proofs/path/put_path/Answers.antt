use Rattle.std.proofs.Common.{arith}
use Rattle.std.proofs.lemmas.Grind.{common_steps}
use Rattle.layer_svg.proofs.path.put_path.Goals as goal

pub loop-number-init : goal.loop-number-init
loop-number-init c = grind (arith, common_steps)

pub returns-clause-kept : goal.returns-clause-kept
returns-clause-kept c = grind (arith, common_steps)

pub returns-clause-path : goal.returns-clause-path
returns-clause-path c = grind (arith, common_steps)

pub returns-clause-at_most : goal.returns-clause-at_most
returns-clause-at_most c = grind (arith, common_steps)
