use Rattle.std.proofs.Common.{◌≡◌, ◌<◌, ℕ, length, get_or}
use Rattle.rule_model.specs.Tiling.{tiling_of}
use Rattle.tiling_c.specs.Arrays.{plain_tile_at}
use Rattle.tiling_c.specs.Meeting.{ShowsMeeting}
use Rattle.tiling_c.proofs.meeting.put_flags.Given as goal

-- the flags so far are right
abbrev pub invariant-loop-i : goal.invariant-loop-i
invariant-loop-i l = record {
  room : length l.flags ≡ length l.tiles;
  each : (j : ℕ) → j < l.i → ShowsMeeting (tiling_of l.machine) l.window (plain_tile_at l.tiles j) (get_or l.flags j 0);
}
