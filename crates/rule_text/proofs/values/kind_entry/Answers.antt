use Rattle.std.proofs.Common.{arith}
use Rattle.std.proofs.lemmas.Grind.{common_steps}
use Rattle.rule_text.proofs.values.kind_entry.Goals as goal

pub returns-in_err-put-3 : goal.returns-in_err-put-3
returns-in_err-put-3 c = grind arith

pub returns-in_err-children : goal.returns-in_err-children
returns-in_err-children c = grind (arith, common_steps)
