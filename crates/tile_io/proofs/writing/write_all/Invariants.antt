use Rattle.std.proofs.Common.{◌≡◌, ◌-◌, ◌≤◌, take, length}
use Rattle.tile_io.specs.Taken.{Takes}
use Rattle.tile_io.proofs.writing.write_all.Given as goal

abbrev pub invariant-loop-at : goal.invariant-loop-at
invariant-loop-at g l = record {
  within : l.at ≤ length l.bytes;
  taken : Takes (g.W.Sink.taken l.initial.sink) (g.W.Sink.taken l.sink) (take l.at l.bytes);
  never_falls : g.W.Sink.faults l.initial.sink ≤ g.W.Sink.faults l.sink;
  untouched : l.at ≡ 0 → l.sink ≡ l.initial.sink;
}

abbrev pub decreases-loop-at : goal.decreases-loop-at
decreases-loop-at g l = length l.bytes - l.at
