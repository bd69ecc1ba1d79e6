use Rattle.std.proofs.Common.{arith}
use Rattle.std.proofs.lemmas.Grind.{common_steps, elements}
use Rattle.builtin_rules.proofs.contacts.tables_from.Goals as goal

pub returns-in_err-to_vec : goal.returns-in_err-to_vec
returns-in_err-to_vec c = grind (arith, common_steps)

pub returns-in_err-kind_contacts : goal.returns-in_err-kind_contacts
returns-in_err-kind_contacts c = grind (arith, common_steps)

pub returns : goal.returns
returns c = grind (arith, elements)
