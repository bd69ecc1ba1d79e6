use Rattle.std.proofs.Common.{arith}
use Rattle.std.proofs.lemmas.Grind.{elements}
use Rattle.list_verify.proofs.found_lines.FoundLines.look_up.Goals as goal

pub index-requires : goal.index-requires
index-requires c = grind (arith, elements)

pub returns-then-index-clause-looked_up : goal.returns-then-index-clause-looked_up
returns-then-index-clause-looked_up c = grind (arith, elements)

pub mark-requires-clause-below : goal.mark-requires-clause-below
mark-requires-clause-below c = grind (arith, elements)
