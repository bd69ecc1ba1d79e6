use Rattle.std.proofs.Common.{arith}
use Rattle.std.proofs.lemmas.Grind.{elements}
use Rattle.rule_text.proofs.ranges.child_of.Goals as goal

pub returns-in_err-shift : goal.returns-in_err-shift
returns-in_err-shift c = grind (arith, elements)

pub returns : goal.returns
returns c = grind (arith, elements)
