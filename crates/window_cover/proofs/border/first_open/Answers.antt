use Rattle.std.proofs.Common.{arith, add-one}
use Rattle.window_cover.proofs.Open.{first-at, none_before-more, none_left}
use Rattle.window_cover.proofs.border.first_open.Goals as goal

pub returns-then-listed-place-clause-none_before : goal.returns-then-listed-place-clause-none_before
returns-then-listed-place-clause-none_before c = c.loop-place.invariant.1

pub returns-then-listed-place-clause-first : goal.returns-then-listed-place-clause-first
returns-then-listed-place-clause-first c = first-at c.args.listed.now c.loop-place.place _
    c.loop-place-test.true c.loop-place.invariant.1 c.if-listed-place.true

pub loop-place-preserved : goal.loop-place-preserved
loop-place-preserved c = (
  omega (arith, c.loop-place-test.true),
  rw add-one
      (none_before-more c.args.listed.now c.loop-place.place _ c.loop-place-test.true
      c.loop-place.invariant.1 c.if-listed-place.false),
)

pub returns-clause-first : goal.returns-clause-first
returns-clause-first c = none_left c.args.listed.now c.loop-place.place (omega (arith, c.loop-place-test.false)) c.loop-place.invariant.1
