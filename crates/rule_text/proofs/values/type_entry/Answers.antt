use Rattle.std.proofs.Common.{arith}
use Rattle.rule_text.proofs.values.type_entry.Goals as goal

pub returns : goal.returns
returns c = grind arith
