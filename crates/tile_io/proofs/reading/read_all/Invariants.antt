use Rattle.std.proofs.Common.{◌-◌, ◌≤◌, vec_len}
use Rattle.tile_io.specs.Left.{Gives}
use Rattle.tile_io.proofs.reading.read_all.Given as goal

abbrev pub invariant-loop-bytes : goal.invariant-loop-bytes
invariant-loop-bytes g l = record {
  given : Gives (g.R.Source.left l.initial.source) (g.R.Source.left l.source) l.bytes.items;
  at_most : vec_len l.bytes ≤ l.most;
  never_falls : g.R.Source.faults l.initial.source ≤ g.R.Source.faults l.source;
}

abbrev pub decreases-loop-bytes : goal.decreases-loop-bytes
decreases-loop-bytes g l = l.most - vec_len l.bytes
