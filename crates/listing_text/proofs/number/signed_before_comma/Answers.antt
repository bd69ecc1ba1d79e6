use Rattle.std.proofs.Common.{arith}
use Rattle.std.proofs.lemmas.Grind.{common_steps}
use Rattle.listing_text.proofs.number.signed_before_comma.Goals as goal

pub returns-then-number-eq0 : goal.returns-then-number-eq0
returns-then-number-eq0 c = grind (arith, common_steps)

pub returns-in-45 : goal.returns-in-45
returns-in-45 c = grind (arith, common_steps)

pub returns : goal.returns
returns c = grind (arith, common_steps)
