use Rattle.std.proofs.Common.{◌≡◌, ◌+◌, ◌-◌, ◌%◌, ◌≤◌, length, map, take}
use Rattle.tile_shape.specs.Views.{step_of}
use Rattle.transducer_core.proofs.Rising.{Rising}
use Rattle.transducer_core.proofs.climb.climb.Given as goal

abbrev pub invariant-loop-level : goal.invariant-loop-level
invariant-loop-level g l = record {
  even : (l.depth - l.level) % 2 ≡ 0;
  inside : l.level ≤ l.depth;
  long : length l.parts ≡ 64;
  cost : l.steps ≤ l.fn.steps + l.level;
  rising : Rising l.tables l.kind (map step_of l.digits) l.fn.edge l.level l.own (take l.level l.parts);
}

abbrev pub decreases-loop-level : goal.decreases-loop-level
decreases-loop-level g l = l.depth - l.level
