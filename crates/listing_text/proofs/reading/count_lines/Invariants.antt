use Rattle.std.proofs.Common.{◌≡◌, ◌+◌, ◌≤◌, drop, length}
use Rattle.listing_text.specs.Lines.{lines_in}
use Rattle.listing_text.proofs.CountedLines.{lines_left}
use Rattle.listing_text.proofs.reading.count_lines.Given as goal

abbrev pub invariant-loop-byte : goal.invariant-loop-byte
invariant-loop-byte l = record {
  counted : l.ended + lines_left l.begun (drop l.byte-index l.text) ≡ length (lines_in l.text);
  few : l.ended ≤ l.byte-index;
}
