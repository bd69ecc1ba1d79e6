use Rattle.std.proofs.Common.{arith}
use Rattle.std.proofs.lemmas.Grind.{common_steps}
use Rattle.rule_text.proofs.reading.type_rows.Goals as goal

pub loop-i-preserved : goal.loop-i-preserved
loop-i-preserved c = grind (arith, common_steps)

pub returns-in_err-row : goal.returns-in_err-row
returns-in_err-row c = grind (arith, common_steps)

pub returns : goal.returns
returns c = grind (arith, common_steps)
