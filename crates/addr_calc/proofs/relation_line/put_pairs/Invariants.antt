use Rattle.std.proofs.Common.{◌≡◌, ◌+◌, ◌*◌, ◌≤◌, ◌++◌, length, map, drop}
use Rattle.pair_machine.specs.Views.{as_pair}
use Rattle.addr_calc.specs.Printed.{pairs_text}
use Rattle.addr_calc.proofs.relation_line.put_pairs.Given as goal

-- the pairs from this one on are put
abbrev pub invariant-loop-left : goal.invariant-loop-left
invariant-loop-left l = record {
  written : l.line ≡ pairs_text (map as_pair (drop l.left l.pairs)) ++ l.fn.line;
  within : l.left ≤ length l.pairs;
  room : length l.line + 8 * l.left ≤ length l.fn.line + 8 * length l.pairs;
}

abbrev pub decreases-loop-left : goal.decreases-loop-left
decreases-loop-left l = l.left
