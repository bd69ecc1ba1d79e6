use Rattle.std.proofs.Common.{◌≡◌, ℕ, ◌+◌, ◌*◌, ◌<◌, length, drop}
use Rattle.cyclo_points.specs.Point.{IsWithin}
use Rattle.theory_walks.specs.Frames.{whole}
use Rattle.theory_walks.specs.Paths.{CanBeWalked}
use Rattle.lazy_walk.specs.Standing.{Stands}
use Rattle.rule_model.specs.Tiling.{tiling_of}
use Rattle.tile_shape.specs.Views.{address_of}
use Rattle.c_values.specs.Addresses.{address_in}
use Rattle.tiling_c.specs.Arrays.{plain_tile_at, plain_address_at}
use Rattle.tiling_c.specs.Walk.{ShowsStanding, IsReached}
use Rattle.tiling_c.proofs.walk.put_tiles.Given as goal

-- the base and the tiles of the path so far stand in the arrays; the last of them is the tile reached, from which the rest can be walked
abbrev pub invariant-loop-i : goal.invariant-loop-i
invariant-loop-i g l = record {
  tiles_room : length l.tiles ≡ length l.path + 1;
  addresses_room : length l.addrs ≡ length l.path + 1;
  base : address_in (plain_address_at l.addrs 0) ≡ whole l.frame;
  base_stands : ShowsStanding (tiling_of l.machine) l.frame 0 (plain_tile_at l.tiles 0) (plain_address_at l.addrs 0);
  each : (j : ℕ) → j < l.i → IsReached (tiling_of l.machine) l.frame l.path l.tiles l.addrs j;
  here : address_in (plain_address_at l.addrs l.i) ≡ address_of l.tile.addr;
  stands : Stands (tiling_of l.machine) l.frame l.tile;
  within : IsWithin (512 * l.i) l.tile.motion.shift;
  ahead : CanBeWalked (tiling_of l.machine) (address_of l.tile.addr) (drop l.i l.path);
}
