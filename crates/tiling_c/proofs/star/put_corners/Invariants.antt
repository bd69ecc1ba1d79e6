use Rattle.std.proofs.Common.{◌≡◌, ◌≤◌, length, map, take, drop, All}
use Rattle.c_values.specs.declared.plain_address.PlainAddress.{PlainAddress}
use Rattle.c_values.specs.Addresses.{address_in}
use Rattle.tiling_c.specs.Star.{corner_shown, corner_address}
use Rattle.tiling_c.proofs.star.put_corners.Given as goal

-- the corners so far
abbrev pub invariant-loop-i : goal.invariant-loop-i
invariant-loop-i l = record {
  count : l.out.count ≡ length l.corners;
  tiles : take l.i l.out.tiles ≡ map corner_shown (take l.i l.corners);
  addresses : map address_in (take l.i l.out.addrs) ≡ map corner_address (take l.i l.corners);
  no_deeper : All (λ (p : PlainAddress). p.depth ≤ 64) (take l.i l.out.addrs);
  tiles_behind : drop l.i l.out.tiles ≡ drop l.i l.fn.out.tiles;
  addresses_behind : drop l.i l.out.addrs ≡ drop l.i l.fn.out.addrs;
}
