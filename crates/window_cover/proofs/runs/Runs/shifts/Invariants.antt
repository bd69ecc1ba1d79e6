use Rattle.std.proofs.Common.{take}
use Rattle.std.specs.List.{AllByRecursion}
use Rattle.window_cover.specs.Reach.{HoldRun}
use Rattle.window_cover.specs.Words.{AreFields}
use Rattle.window_cover.proofs.runs.Runs.shifts.Given as goal

-- the fields hold the runs before
abbrev pub invariant-loop-run : goal.invariant-loop-run
invariant-loop-run l = record {
  fields : AreFields l.fields;
  held : AllByRecursion (HoldRun l.fields) (take l.run-index l.runs);
}
