use Rattle.std.specs.Int.{w64}
use Rattle.std.proofs.Common.{arith, ℕ, ℤ, ◌<◌, ◌≡◌, ◌^◌, pos, sym, ◌∙◌, ap, ap₂, subst}
use Rattle.std.proofs.lemmas.Int.{ints}
use Rattle.cyclo_points.specs.Point.{Within}
use Rattle.cyclo_points.specs.Witness.{witness_in}
use Rattle.cyclo_points.proofs.Reals.{reading}
use Rattle.cyclo_points.proofs.Shorts.{cast-is}
use Rattle.window_descent.proofs.Insides.{tells-below, tells-above, limit-small}
use Rattle.window_descent.proofs.sides.compare.Goals as goal

read_extent : (x : ℤ) (n : ℕ) → x ≡ pos n → n < 2 ^ 16 → reading w64 x ≡ pos n
read_extent x n e f = omega (arith, ints)

pub returns : goal.returns
returns c =
    let o = c.args.order in
    let r = c.args.r.now in
    let wa = c.requires.within.at_a in
    let wb = c.requires.within.at_b in
    let ha = c.if-a-gt-GREATEST_PART.false in
    let la = c.if-a.false in
    let hb = c.if-b-gt-GREATEST_PART.false in
    let lb = c.if-b.false in
    let fa : Within (2 ^ 24) r.a = record { low = omega (arith, ints); high = omega (arith, ints) } in
    let fb : Within (2 ^ 24) r.b = record { low = omega (arith, ints); high = omega (arith, ints) } in
    let own : c.witness-own.result ≡ witness_in o r.a r.b = c.witness-own.ensures.value
    ∙ ap₂ (witness_in o) (cast-is r.a (record { low = omega (arith, ints); high = omega (arith, ints) }))
    (cast-is r.b (record { low = omega (arith, ints); high = omega (arith, ints) })) in
    let few = c.ranges.extent.fits in
    let from = c.from.ensures in
    let limit : c.witness-limit.result ≡ witness_in o (pos c.args.extent) (pos 0) = c.witness-limit.ensures.value
    ∙ ap (λ z. witness_in o z (pos 0)) (read_extent c.from.result c.args.extent from few) in
    let own_fits = c.witness-own.type_inv in
    let limit_fits = c.witness-limit.type_inv in
    let near : Within (2 ^ 60) c.witness-limit.result = subst (Within (2 ^ 60)) (sym limit) (limit-small o c.args.extent (omega (arith, few))) in
    record {
      below = tells-below o c.args.extent (omega (arith, few)) r.a r.b fa fb c.witness-own.result c.witness-limit.result own limit _
          (λ t. omega (arith, ints)) (λ t. omega (arith, ints));
      above = tells-above o c.args.extent (omega (arith, few)) r.a r.b fa fb c.witness-own.result c.witness-limit.result own limit _
          (λ t. omega (arith, ints)) (λ t. omega (arith, ints));
    }
