use Rattle.std.proofs.Common.{◌≡◌, ℕ, ◌<◌, ◌≤◌, length, get_or}
use Rattle.rule_model.specs.Tiling.{tiling_of}
use Rattle.tiling_c.specs.Arrays.{crossing_at, plain_address_at}
use Rattle.tiling_c.specs.Crossing.{ShowsCrossingInArray}
use Rattle.tiling_c.proofs.cross_arrays.cross_all.Given as goal

-- the edges so far are crossed, and further addresses are as they were
abbrev pub invariant-loop-i : goal.invariant-loop-i
invariant-loop-i l = record {
  room : length l.addrs ≡ length l.fn.addrs;
  crossings_room : length l.crossings ≡ length l.fn.crossings;
  each : (j : ℕ) → j < l.i → ShowsCrossingInArray (tiling_of l.machine) (plain_address_at l.fn.addrs j)
      (get_or l.edges j 0) (plain_address_at l.addrs j) (crossing_at l.crossings j);
  rest : (j : ℕ) → l.i ≤ j → plain_address_at l.addrs j ≡ plain_address_at l.fn.addrs j;
}
