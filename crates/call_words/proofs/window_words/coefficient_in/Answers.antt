use Rattle.std.proofs.Common.{arith}
use Rattle.std.proofs.lemmas.Grind.{common_steps}
use Rattle.call_words.proofs.window_words.coefficient_in.Goals as goal

pub returns-in_err-number-in-45-clause-number : goal.returns-in_err-number-in-45-clause-number
returns-in_err-number-in-45-clause-number c = grind (arith, common_steps)

pub returns-in-0-clause-number : goal.returns-in-0-clause-number
returns-in-0-clause-number c = grind (arith, common_steps)

pub returns-in_ok-read_number-in_default-clause-number : goal.returns-in_ok-read_number-in_default-clause-number
returns-in_ok-read_number-in_default-clause-number c = grind (arith, common_steps)

pub returns-in_ok-read_number-in_default-clause-within : goal.returns-in_ok-read_number-in_default-clause-within
returns-in_ok-read_number-in_default-clause-within c = grind (arith, common_steps)
