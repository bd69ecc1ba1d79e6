use Rattle.std.proofs.Common.{List, ℕ, take}
use Rattle.transducer_core.specs.Merging.{AreBlocksKept, ArePlaced}
use Rattle.transducer_core.specs.RowBlocks.{blocks_of}
use Rattle.transducer_core.proofs.merging.place_row.Given as goal

abbrev pub invariant-loop-number : goal.invariant-loop-number
invariant-loop-number l = (blocks : List (List ℕ)) → AreBlocksKept blocks l.fn.kept.words.items l.fn.kept.ends.items
    → ArePlaced blocks (take l.number (blocks_of l.which l.row)) l.kept.words.items l.kept.ends.items l.fn.starts.items l.starts.items
