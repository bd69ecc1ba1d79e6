use Rattle.std.proofs.Common.{◌≡◌, ◌+◌, ◌%◌, ◌≤◌, length, map}
use Rattle.tile_shape.specs.Views.{step_of}
use Rattle.transducer_core.proofs.Falls.{Down}
use Rattle.transducer_core.proofs.descent.write_down.Given as goal

abbrev pub invariant-loop-level : goal.invariant-loop-level
invariant-loop-level g l = record {
  even : l.level % 2 ≡ 0;
  inside : l.level ≤ l.fn.meeting.level;
  count : length l.digits ≡ length l.fn.digits;
  cost : l.steps + l.level ≡ l.fn.steps + l.fn.meeting.level;
  down : Down l.tables (map step_of l.fn.digits) l.fn.meeting l.parts l.level (map step_of l.digits) l.side;
}

abbrev pub decreases-loop-level : goal.decreases-loop-level
decreases-loop-level g l = l.level
