use Rattle.std.specs.Int.{w64}
use Rattle.std.proofs.Common.{arith, ◌^◌, sym, ◌∙◌, ap₂, subst}
use Rattle.std.proofs.lemmas.Int.{ints, to_z-of_z}
use Rattle.cyclo_points.specs.Point.{Within}
use Rattle.cyclo_points.specs.Witness.{witness_in}
use Rattle.cyclo_points.proofs.Shorts.{cast-is}
use Rattle.window_descent.proofs.Limits.{short-number, witness-number, witness-small}
use Rattle.window_descent.proofs.bounds.short_witness.Goals as goal

pub returns-clause-short : goal.returns-clause-short
returns-clause-short c =
    let r = c.args.r.now in
    let wa = c.requires.within.at_a in
    let wb = c.requires.within.at_b in
    let ha = c.if-a-gt-GREATEST_PART.false in
    let la = c.if-a.false in
    let hb = c.if-b-gt-GREATEST_PART.false in
    let lb = c.if-b.false in
    short-number c.args.order (2 ^ 23) r.a r.b (record { low = omega (arith, ints); high = omega (arith, ints) })
    (record { low = omega (arith, ints); high = omega (arith, ints) })

pub returns-clause-value : goal.returns-clause-value
returns-clause-value c =
    let o = c.args.order in
    let r = c.args.r.now in
    let wa = c.requires.within.at_a in
    let wb = c.requires.within.at_b in
    to_z-of_z w64 c.witness.result (record { sfits = c.witness.type_inv }) ∙ c.witness.ensures.value
    ∙ ap₂ (witness_in o) (cast-is r.a (record { low = omega (arith, ints); high = omega (arith, ints) }))
    (cast-is r.b (record { low = omega (arith, ints); high = omega (arith, ints) })) ∙ witness-number o r.a r.b

pub returns-clause-small : goal.returns-clause-small
returns-clause-small c =
    let o = c.args.order in
    let r = c.args.r.now in
    let wa = c.requires.within.at_a in
    let wb = c.requires.within.at_b in
    let ha = c.if-a-gt-GREATEST_PART.false in
    let la = c.if-a.false in
    let hb = c.if-b-gt-GREATEST_PART.false in
    let lb = c.if-b.false in
    subst (Within (2 ^ 52)) (sym (to_z-of_z w64 c.witness.result (record { sfits = c.witness.type_inv }) ∙ c.witness.ensures.value
    ∙ ap₂ (witness_in o) (cast-is r.a (record { low = omega (arith, ints); high = omega (arith, ints) }))
    (cast-is r.b (record { low = omega (arith, ints); high = omega (arith, ints) }))))
    (witness-small o r.a r.b (record { low = omega (arith, ints); high = omega (arith, ints) })
    (record { low = omega (arith, ints); high = omega (arith, ints) }))
