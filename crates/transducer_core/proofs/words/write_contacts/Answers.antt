use Rattle.std.proofs.Common.{arith}
use Rattle.std.proofs.lemmas.Grind.{common_steps}
use Rattle.transducer_core.proofs.words.write_contacts.Goals as goal

pub loop-contact-preserved : goal.loop-contact-preserved
loop-contact-preserved c = grind (arith, common_steps)

pub returns-in_err-push : goal.returns-in_err-push
returns-in_err-push c = grind arith

pub returns : goal.returns
returns c = grind (arith, common_steps)
