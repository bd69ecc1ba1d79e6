use Rattle.std.proofs.Common.{arith}
use Rattle.std.proofs.lemmas.Grind.{common_steps}
use Rattle.builtin_rules.proofs.contacts.copied_lists.Goals as goal

pub returns-in_err-copies : goal.returns-in_err-copies
returns-in_err-copies c = grind (arith, common_steps)

pub returns-in_err-push : goal.returns-in_err-push
returns-in_err-push c = grind (arith, common_steps)

pub loop-list-preserved : goal.loop-list-preserved
loop-list-preserved c = grind (arith, common_steps)

pub returns : goal.returns
returns c = grind (arith, common_steps)
