use Rattle.std.proofs.Common.{arith}
use Rattle.std.proofs.lemmas.Bool.{eqb-true, eq-eqb}
use Rattle.tile_shape.proofs.Cuts.{parted, whole}
use Rattle.addr_calc.proofs.cut.cut.Goals as goal

pub returns-then-byte-mark-clause-parts : goal.returns-then-byte-mark-clause-parts
returns-then-byte-mark-clause-parts c =
    parted c.args.mark c.args.text.now c.loop-place.place c.loop-place-test.true
    (λ k l is. c.loop-place.invariant k l (eqb-true _ c.args.mark is))
    (eq-eqb _ c.args.mark c.if-byte-mark.true)

pub returns-clause-parts : goal.returns-clause-parts
returns-clause-parts c =
    whole c.args.mark c.args.text.now (λ k l is. c.loop-place.invariant k
    (let e = c.loop-place-test.false in omega (arith, l, e)) (eqb-true _ c.args.mark is))
