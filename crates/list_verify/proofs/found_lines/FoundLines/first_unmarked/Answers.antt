use Rattle.std.proofs.Common.{arith}
use Rattle.std.proofs.lemmas.Grind.{elements}
use Rattle.list_verify.proofs.found_lines.FoundLines.first_unmarked.Goals as goal

pub returns-then-not-index-clause-first : goal.returns-then-not-index-clause-first
returns-then-not-index-clause-first c = grind (arith, elements)

pub loop-line-preserved : goal.loop-line-preserved
loop-line-preserved c = grind (arith, elements)
