use Rattle.std.proofs.Common.{◌≡◌, ◌*◌, ◌≤◌}
use Rattle.rule_model.specs.Tiling.{tiling_of}
use Rattle.theory_windows.specs.Limits.{most_tiles}
use Rattle.tile_app.specs.Drill.{IsSummary}
use Rattle.tile_app.proofs.drill.summed.Given as goal

-- the windows before are summed up, each had six words, and their counts are as few as so many windows may have
abbrev pub invariant-loop-number : goal.invariant-loop-number
invariant-loop-number l = record {
  summary : IsSummary (tiling_of l.machine) l.start l._number l.summary;
  six_words : l.growth.taken ≡ 6 * l._number;
  same_start : l.growth.start ≡ l.start;
  few_tiles : l.summary.tiles ≤ most_tiles * l._number;
  few_refused : l.summary.refused ≤ l._number;
}
