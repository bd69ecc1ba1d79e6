use Rattle.std.proofs.Common.{◌≡◌, ◌≤◌, ◌<◌, ◌+◌, ◌*◌, ◌++◌, map, drop, length}
use Rattle.tile_shape.specs.Text.{digits_text}
use Rattle.tile_shape.specs.Views.{step_of}
use Rattle.layer_api.proofs.backwards.write_each_step.Given as goal

abbrev pub invariant-loop-level : goal.invariant-loop-level
invariant-loop-level l = record {
  written : drop l.at l.buf ≡ digits_text (map step_of (drop l.level l.steps)) ++ drop l.end l.fn.buf;
  inside : l.level < length l.steps;
  before : l.at ≤ l.end;
  room : l.end + 8 * l.level ≤ l.at + 8 * length l.steps;
}

abbrev pub decreases-loop-level : goal.decreases-loop-level
decreases-loop-level l = l.level
