use Rattle.std.proofs.Common.{◌≡◌, length, take}
use Rattle.window_cover.specs.Runs.{seen}
use Rattle.window_cover.proofs.KindCounts.{AreCounts}
use Rattle.window_cover.proofs.runs.Runs.counts.Given as goal

abbrev pub invariant-loop-number : goal.invariant-loop-number
invariant-loop-number l = record {
  size : length l.counts ≡ 256;
  counted : AreCounts l.counts (take l.number (seen l.fn.self));
}
