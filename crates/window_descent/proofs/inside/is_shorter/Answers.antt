use Rattle.std.specs.Int.{w64}
use Rattle.std.proofs.Common.{arith, ℕ, ℤ, ◌<◌, ◌≡◌, ◌^◌, pos, neg_ℤ, ◌<ℤ◌, sym, ◌∙◌, ap, ap₂, subst}
use Rattle.std.proofs.lemmas.Int.{ints}
use Rattle.cyclo_points.specs.Point.{Within}
use Rattle.cyclo_points.specs.Witness.{witness_in}
use Rattle.cyclo_points.proofs.Reals.{reading}
use Rattle.cyclo_points.proofs.Shorts.{cast-is}
use Rattle.window_descent.proofs.Insides.{below-extent, above-extent, limit-small}
use Rattle.window_descent.proofs.inside.is_shorter.Goals as goal

read_extent : (x : ℤ) (n : ℕ) → x ≡ pos n → n < 2 ^ 16 → reading w64 x ≡ pos n
read_extent x n e f = omega (arith, ints)

pub returns-then-limit-own-clause-below : goal.returns-then-limit-own-clause-below
returns-then-limit-own-clause-below c = λ k.
    let o = c.args.order in
    let r = c.args.r.now in
    let wa = c.requires.within.at_a in
    let wb = c.requires.within.at_b in
    let ha = c.if-a-gt-GREATEST_PART.false in
    let la = c.if-a.false in
    let hb = c.if-b-gt-GREATEST_PART.false in
    let lb = c.if-b.false in
    let fa : Within (2 ^ 24) r.a = record { low = omega (arith, ints); high = omega (arith, ints) } in
    let fb : Within (2 ^ 24) r.b = record { low = omega (arith, ints); high = omega (arith, ints) } in
    let own : c.witness-own.result ≡ witness_in o r.a r.b = c.witness-own.ensures.value
    ∙ ap₂ (witness_in o) (cast-is r.a (record { low = omega (arith, ints); high = omega (arith, ints) }))
    (cast-is r.b (record { low = omega (arith, ints); high = omega (arith, ints) })) in
    let few = c.ranges.extent.fits in
    let from = c.from.ensures in
    let limit : c.witness-limit.result ≡ witness_in o (pos c.args.extent) (pos 0) = c.witness-limit.ensures.value
    ∙ ap (λ z. witness_in o z (pos 0)) (read_extent c.from.result c.args.extent from few) in
    let own_fits = c.witness-own.type_inv in
    let limit_fits = c.witness-limit.type_inv in
    let less : c.witness-own.result <ℤ c.witness-limit.result = omega (arith, ints) in
    below-extent o c.args.extent (omega (arith, few)) r.a r.b fa fb
    (subst (λ y. witness_in o r.a r.b <ℤ y) limit (subst (λ x. x <ℤ c.witness-limit.result) own less))

pub returns-then-limit-own-clause-above : goal.returns-then-limit-own-clause-above
returns-then-limit-own-clause-above c = λ k.
    let o = c.args.order in
    let r = c.args.r.now in
    let wa = c.requires.within.at_a in
    let wb = c.requires.within.at_b in
    let ha = c.if-a-gt-GREATEST_PART.false in
    let la = c.if-a.false in
    let hb = c.if-b-gt-GREATEST_PART.false in
    let lb = c.if-b.false in
    let fa : Within (2 ^ 24) r.a = record { low = omega (arith, ints); high = omega (arith, ints) } in
    let fb : Within (2 ^ 24) r.b = record { low = omega (arith, ints); high = omega (arith, ints) } in
    let own : c.witness-own.result ≡ witness_in o r.a r.b = c.witness-own.ensures.value
    ∙ ap₂ (witness_in o) (cast-is r.a (record { low = omega (arith, ints); high = omega (arith, ints) }))
    (cast-is r.b (record { low = omega (arith, ints); high = omega (arith, ints) })) in
    let few = c.ranges.extent.fits in
    let from = c.from.ensures in
    let limit : c.witness-limit.result ≡ witness_in o (pos c.args.extent) (pos 0) = c.witness-limit.ensures.value
    ∙ ap (λ z. witness_in o z (pos 0)) (read_extent c.from.result c.args.extent from few) in
    let own_fits = c.witness-own.type_inv in
    let limit_fits = c.witness-limit.type_inv in
    let t = c.if-limit-own.true in
    let near : Within (2 ^ 60) c.witness-limit.result = subst (Within (2 ^ 60)) (sym limit) (limit-small o c.args.extent (omega (arith, few))) in
    let less : neg_ℤ c.witness-limit.result <ℤ c.witness-own.result = omega (arith, ints) in
    above-extent o c.args.extent (omega (arith, few)) r.a r.b fa fb
    (subst (λ y. neg_ℤ y <ℤ witness_in o r.a r.b) limit (subst (λ x. neg_ℤ c.witness-limit.result <ℤ x) own less))
