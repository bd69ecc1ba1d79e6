use Rattle.std.proofs.Common.{◌≡◌, ◌++◌, map, take}
use Rattle.edge_tables.specs.Views.{as_child_edge}
use Rattle.transducer_core.specs.Words.{part_words}
use Rattle.transducer_core.proofs.words.write_parts.Given as goal

abbrev pub invariant-loop-done : goal.invariant-loop-done
invariant-loop-done l = l.words.items ≡ l.fn.words.items ++ take l.done (part_words (map as_child_edge l.block.items))
