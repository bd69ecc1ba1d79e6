use Rattle.std.proofs.Common.{◌≡◌, ◌≤◌, [], length, take}
use Rattle.window_cover.specs.Border.{open_of}
use Rattle.window_cover.proofs.border.first_open.Given as goal

abbrev pub invariant-loop-place : goal.invariant-loop-place
invariant-loop-place l = (l.place ≤ length l.listed) × (open_of (take l.place l.listed) ≡ [])
