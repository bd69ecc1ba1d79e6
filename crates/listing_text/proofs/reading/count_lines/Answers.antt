use Rattle.std.proofs.Common.{arith}
use Rattle.listing_text.proofs.CountedLines.{newline_passed, other_passed}
use Rattle.listing_text.proofs.reading.count_lines.Goals.{then-byte-eq10, else-byte-eq10}
use Rattle.listing_text.proofs.reading.count_lines.Goals as goal

pub loop-byte-preserved : goal.loop-byte-preserved
loop-byte-preserved c = elim c.if-byte-eq10.branch [
  | then-byte-eq10 w ↦ record {
    counted = newline_passed c.args.text.now c.loop-byte.byte-index c.loop-byte.ended c.loop-byte.begun
        c.loop-byte-test.true c.loop-byte.invariant.counted
        c.if-byte-eq10.ended c.if-byte-eq10.begun w.if-byte-eq10.true w.ended-is w.begun-is;
    few = (let e = w.ended-is in let f = c.loop-byte.invariant.few in omega arith);
  }
  | else-byte-eq10 w ↦ record {
    counted = other_passed c.args.text.now c.loop-byte.byte-index c.loop-byte.ended c.loop-byte.begun
        c.loop-byte-test.true c.loop-byte.invariant.counted
        c.if-byte-eq10.ended c.if-byte-eq10.begun w.if-byte-eq10.false w.ended-is w.begun-is;
    few = (let e = w.ended-is in let f = c.loop-byte.invariant.few in omega arith);
  }
]
