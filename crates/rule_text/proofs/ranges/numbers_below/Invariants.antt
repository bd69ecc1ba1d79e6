use Rattle.std.proofs.Common.{◌≡◌, drop}
use Rattle.rule_text.specs.Forms.{each}
use Rattle.rule_text.specs.Ranges.{number_below}
use Rattle.rule_text.proofs.Walks.{behind}
use Rattle.rule_text.proofs.ranges.numbers_below.Given as goal

abbrev pub invariant-loop-number : goal.invariant-loop-number
invariant-loop-number l = behind l.small.items (each (number_below l.limit) (drop l.number-index l.numbers)) ≡ each (number_below l.limit) l.numbers
