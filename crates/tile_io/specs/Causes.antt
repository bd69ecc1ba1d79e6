-- The count of faults of a source or a sink.
use Rattle.std.specs.Prelude.{ℕ, ◌+◌, ◌-◌, ◌^◌, ◌≤◌, min, Ok, Err, OnErr}
use Rattle.std.specs.declared.result.Result.{Result}

-- the count after one more, which stays at its last value once it is there
abbrev pub next_count : ℕ → ℕ
next_count count = min (count + 1) (2 ^ 64 - 1)

-- the count rose, or is at its last value
abbrev pub Rose : ℕ → ℕ → Type 0
Rose before after = next_count before ≤ after

-- a call failed only if the count rose, and the count never falls
pub record HasCause {T E : Type 0} (before after : ℕ) (result : Result T E) : Type 0 where
  pub never_falls : before ≤ after
  pub failed : OnErr result (Rose before after)

-- the count after a call that counts its one failure, and nothing else
abbrev pub count_after : {T E : Type 0} → ℕ → Result T E → ℕ
count_after before (Ok _) = before
count_after before (Err _) = next_count before

-- a rise in either of two stretches is a rise in both together
abbrev pub CausesInTurn : Type 0
CausesInTurn =
    (first second third : ℕ) →
    ((Rose first second × (second ≤ third)) → Rose first third)
    × (((first ≤ second) × Rose second third) → Rose first third)
