use Rattle.std.proofs.Common.{◌≡◌, ℤ, [], ◌∷◌, length, to_z, of_z, ◌∙◌, sym, arith}
use Rattle.std.specs.Int.{w16}
use Rattle.std.proofs.lemmas.Int.{ints}
use Rattle.cyclo_points.specs.Point.{coefficient}
use Rattle.cyclo_points.proofs.Readings.{machine}
use Rattle.cyclo_points.proofs.Coefficients.{four}
use Rattle.tile_place.proofs.small_point.SmallPoint.of.Goals as goal

abbrev short : ℤ → ℤ
short x = to_z w16 (of_z w16 (machine x))

pub returns : goal.returns
returns c =
    let p = c.args.p.now in
    let l : length p.c ≡ 4 = omega arith in
    let p0 : short (coefficient p 0) ≡ coefficient p 0 = omega (arith, ints, c.requires.at_0.low, c.requires.at_0.high) in
    let p1 : short (coefficient p 1) ≡ coefficient p 1 = omega (arith, ints, c.requires.at_1.low, c.requires.at_1.high) in
    let p2 : short (coefficient p 2) ≡ coefficient p 2 = omega (arith, ints, c.requires.at_2.low, c.requires.at_2.high) in
    let p3 : short (coefficient p 3) ≡ coefficient p 3 = omega (arith, ints, c.requires.at_3.low, c.requires.at_3.high) in
    let all : short (coefficient p 0) ∷ (short (coefficient p 1)
    ∷ (short (coefficient p 2) ∷ (short (coefficient p 3) ∷ []))) ≡ p.c
    = (λ i. p0 i ∷ (p1 i ∷ (p2 i ∷ (p3 i ∷ [])))) ∙ sym (four p.c l) in
    λ i. record { c = all i }
