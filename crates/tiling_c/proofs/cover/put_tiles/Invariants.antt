use Rattle.std.proofs.Common.{◌≡◌, length, map, take, drop}
use Rattle.tiling_c.specs.Shown.{tile_shown}
use Rattle.tiling_c.proofs.cover.put_tiles.Given as goal

-- the tiles so far, and behind them what was there
abbrev pub invariant-loop-place : goal.invariant-loop-place
invariant-loop-place l = record {
  room : length l.tiles ≡ length l.fn.tiles;
  front : take l.place l.tiles ≡ map tile_shown (take l.place l.covered);
  behind : drop l.place l.tiles ≡ drop l.place l.fn.tiles;
}
