use Rattle.std.proofs.Common.{◌≡◌, ◌≤◌, length, map, take, drop, All}
use Rattle.c_values.specs.declared.plain_address.PlainAddress.{PlainAddress}
use Rattle.c_values.specs.Addresses.{address_in}
use Rattle.tiling_c.specs.Shown.{tile_shown, address_shown}
use Rattle.tiling_c.proofs.cover.put_both.Given as goal

-- the tiles and the addresses so far, and behind them what was there
abbrev pub invariant-loop-place : goal.invariant-loop-place
invariant-loop-place l = record {
  room : length l.tiles ≡ length l.fn.tiles;
  same : length l.addrs ≡ length l.fn.addrs;
  front : take l.place l.tiles ≡ map tile_shown (take l.place l.covered);
  behind : drop l.place l.tiles ≡ drop l.place l.fn.tiles;
  addresses_front : map address_in (take l.place l.addrs) ≡ map address_shown (take l.place l.covered);
  no_deeper : All (λ (p : PlainAddress). p.depth ≤ 64) (take l.place l.addrs);
  addresses_behind : drop l.place l.addrs ≡ drop l.place l.fn.addrs;
}
