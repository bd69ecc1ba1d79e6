use Rattle.std.proofs.Common.{◌≡◌, ◌≤◌, ◌++◌}
use Rattle.window_cover.specs.Runs.{run_tiles}
use Rattle.window_cover.proofs.runs.push_tiles.Given as goal

abbrev pub invariant-loop-number : goal.invariant-loop-number
invariant-loop-number l = record {
  few : l.number ≤ l.count;
  tiles : l.tiles.items ≡ l.fn.tiles.items ++ run_tiles l.run l.first l.number;
}
