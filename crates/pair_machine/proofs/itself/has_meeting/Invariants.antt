use Rattle.std.proofs.Common.{◌<◌, ℕ}
use Rattle.pair_machine.specs.Itself.{MeetsItself}
use Rattle.pair_machine.proofs.itself.has_meeting.Given as goal

abbrev pub invariant-loop-child : goal.invariant-loop-child
invariant-loop-child l = (a : ℕ) → a < l.child → MeetsItself l.tables l.kind a → ⊥
