-- Which calls of a source or a sink fail by a list of their numbers.
use Rattle.std.specs.Prelude.{ℕ, ◌+◌, ◌-◌, ◌^◌, ◌<◌, List, Contains}
use Rattle.std.specs.declared.result.Result.{Result}
use Rattle.tile_io.specs.Causes.{next_count, count_after}

-- the numbers of the calls that fail, and the counts of calls and of faults
pub record Plan : Type 0 where
  pub fails : List ℕ
  pub calls : ℕ
  pub faults : ℕ

-- at first no call came
abbrev pub first_plan : List ℕ → Plan
first_plan fails = record { fails = fails; calls = 0; faults = 0 }

-- the next call's number is listed; a call after number 2 ^ 64 - 1 has none
abbrev pub IsListedNext : Plan → Type 0
IsListedNext plan = (plan.calls < 2 ^ 64 - 1) × Contains plan.fails (plan.calls + 1)

-- one more call is counted, and its failure with it
abbrev pub plan_after : {T E : Type 0} → Plan → Result T E → Plan
plan_after plan result =
    record plan { calls = next_count plan.calls; faults = count_after plan.faults result }
