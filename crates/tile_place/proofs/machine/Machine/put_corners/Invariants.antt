use Rattle.std.proofs.Common.{◌≡◌, ℕ, ◌<◌, length, get_or}
use Rattle.rule_model.specs.Tiling.{tiling_of}
use Rattle.rule_model.specs.Usable.{origin}
use Rattle.tile_place.specs.Corners.{IsCorner}
use Rattle.tile_place.proofs.machine.Machine.put_corners.Given as goal

abbrev pub invariant-loop-number : goal.invariant-loop-number
invariant-loop-number l = record {
  count : length l.corners.items ≡ l.number;
  each : (e : ℕ) → e < l.number → IsCorner (tiling_of l.self) l.kind l.motion e (get_or l.corners.items e origin);
}
