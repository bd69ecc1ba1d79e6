use Rattle.std.proofs.Common.{◌≡◌, ◌%◌, ◌<◌, length}
use Rattle.transducer_core.proofs.KindCells.{Below}
use Rattle.transducer_core.proofs.flat_table.FlatTable.last_below.Given as goal

abbrev pub invariant-loop-level : goal.invariant-loop-level
invariant-loop-level l = record {
  even : l.level % 2 ≡ 0;
  inside : l.level < length l.digits;
  below : Below l.self l.kinds l.digits l.level l.last;
}

abbrev pub decreases-loop-level : goal.decreases-loop-level
decreases-loop-level l = l.level
