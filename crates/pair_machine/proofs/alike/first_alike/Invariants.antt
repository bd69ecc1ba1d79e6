use Rattle.std.proofs.Common.{◌≡◌, ◌<◌, ◌/◌, ◌%◌, ℕ}
use Rattle.theory_addresses.specs.Tables.{parts_of}
use Rattle.pair_machine.proofs.alike.first_alike.Given as goal

abbrev pub invariant-loop-other : goal.invariant-loop-other
invariant-loop-other l = (m : ℕ) → m < l.other → parts_of l.tables (m / 12) (m % 12) ≡ parts_of l.tables (l.number / 12) (l.number % 12) → ⊥
