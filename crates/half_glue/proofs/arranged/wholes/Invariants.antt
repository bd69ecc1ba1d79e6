use Rattle.std.proofs.Common.{◌≡◌, ◌++◌, take}
use Rattle.half_glue.specs.Lifted.{wholes_of}
use Rattle.half_glue.proofs.arranged.wholes.Given as goal

abbrev pub invariant-loop-number : goal.invariant-loop-number
invariant-loop-number l = l.wholes.items ≡ wholes_of l.fn.frame (l.fn.tiles ++ l.fn.made.crossed.items) (take l.number l.fn.made.pairs.items)
