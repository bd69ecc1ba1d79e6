use Rattle.std.proofs.Common.{◌≡◌, ℕ, ◌<◌, length}
use Rattle.rule_model.specs.Tiling.{tiling_of}
use Rattle.tiling_c.specs.Arrays.{plain_address_at, plain_tile_at}
use Rattle.tiling_c.specs.Placing.{ShowsPlaceInArray}
use Rattle.tiling_c.proofs.place_arrays.put_places.Given as goal

-- where the tiles so far lie
abbrev pub invariant-loop-i : goal.invariant-loop-i
invariant-loop-i l = record {
  room : length l.tiles ≡ length l.fn.tiles;
  each : (j : ℕ) → j < l.i → ShowsPlaceInArray (tiling_of l.machine) (plain_address_at l.addrs j) (plain_tile_at l.tiles j);
}
