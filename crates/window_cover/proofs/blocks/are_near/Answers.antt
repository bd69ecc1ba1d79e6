use Rattle.std.proofs.Common.{arith}
use Rattle.window_cover.proofs.BlockTiles.{none-near, near-more}
use Rattle.window_cover.proofs.blocks.are_near.Goals as goal

pub loop-number-init : goal.loop-number-init
loop-number-init c = none-near c.args.leaves.now.found c.args.first c.args.depth

pub loop-number-preserved : goal.loop-number-preserved
loop-number-preserved c = near-more c.args.leaves.now.found c.args.first c.loop-number.number c.args.depth c.loop-number.invariant
    (c.is_near.ensures.near c.if-not-is_near.false) (c.is_near.ensures.short c.if-not-is_near.false)

pub returns : goal.returns
returns c = λ _. record {
  near = λ i a b. c.loop-number.invariant.near i a (omega (arith, b, c.loop-number-test.false));
  short = λ i a b. c.loop-number.invariant.short i a (omega (arith, b, c.loop-number-test.false));
}
