use Rattle.std.proofs.Common.{◌<◌, ℕ}
use Rattle.pair_machine.specs.Itself.{HasMeeting}
use Rattle.pair_machine.proofs.itself.some_meets_itself.Given as goal

abbrev pub invariant-loop-kind : goal.invariant-loop-kind
invariant-loop-kind l = (k : ℕ) → k < l.kind → HasMeeting l.tables k → ⊥
