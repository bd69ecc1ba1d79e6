use Rattle.std.proofs.Common.{◌≡◌}
use Rattle.trial_calls.proofs.growth.note_digits.Given as goal

abbrev pub invariant-loop-row : goal.invariant-loop-row
invariant-loop-row l = l.growth.taken ≡ l.row
