use Rattle.std.proofs.Common.{◌≡◌, ◌++◌, map, take}
use Rattle.transducer_core.specs.Merged.{last_cell}
use Rattle.transducer_core.proofs.spread.push_kinds.Given as goal

abbrev pub invariant-loop-kind : goal.invariant-loop-kind
invariant-loop-kind l = l.list.items ≡ l.fn.list.items ++ map last_cell (take l.kind-index l.kinds.items)
