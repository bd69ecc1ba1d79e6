use Rattle.std.proofs.Common.{◌≡◌, ◌≤◌, drop}
use Rattle.tile_shape.specs.Decimal.{continued}
use Rattle.tile_shape.proofs.decimal.read_number.Given as goal

-- the figures behind make of the number so far what all make of 0
abbrev pub invariant-loop-byte : goal.invariant-loop-byte
invariant-loop-byte l = record {
  same : continued l.number (drop l.byte-index l.text) ≡ continued 0 l.text;
  small : l.number ≤ l.most;
}
