use Rattle.std.proofs.Common.{◌≡◌, length, ℕ, Some, slice_get}
use Rattle.pair_machine.specs.Alike.{IsFirstAlike}
use Rattle.pair_machine.proofs.alike.firsts_alike.Given as goal

abbrev pub invariant-loop-number : goal.invariant-loop-number
invariant-loop-number l = record {
  size : length l.firsts.items ≡ l.number;
  each : (n first : ℕ) → slice_get l.firsts.items n ≡ Some first → IsFirstAlike l.tables n first;
}
