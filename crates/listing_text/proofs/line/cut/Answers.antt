use Rattle.std.proofs.Common.{eq-eqb, arith}
use Rattle.tile_shape.proofs.Cuts.{parted, whole}
use Rattle.listing_text.proofs.line.cut.Goals as goal

pub returns-then-text-place-clause-texts : goal.returns-then-text-place-clause-texts
returns-then-text-place-clause-texts c =
    parted c.args.mark c.args.text.now c.loop-place.place c.loop-place-test.true c.loop-place.invariant (eq-eqb _ c.args.mark c.if-text-place.true)

pub returns-clause-texts : goal.returns-clause-texts
returns-clause-texts c =
    whole c.args.mark c.args.text.now (λ k l. c.loop-place.invariant k
    (let e = c.loop-place.auto.place-end in let f = c.loop-place-test.false in omega (arith, l, e, f)))
