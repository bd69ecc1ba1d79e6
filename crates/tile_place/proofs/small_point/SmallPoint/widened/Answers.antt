use Rattle.std.proofs.Common.{◌≡◌, pos, [], ◌∷◌, length, get_or, ◌∙◌, sym, arith}
use Rattle.std.proofs.lemmas.Int.{ints}
use Rattle.cyclo_points.proofs.Readings.{machine}
use Rattle.cyclo_points.proofs.Coefficients.{four}
use Rattle.tile_place.proofs.small_point.SmallPoint.widened.Goals as goal

pub returns : goal.returns
returns c =
    let s = c.args.self.now in
    let l : length s.c ≡ 4 = omega arith in
    let p0 : machine c.from.result ≡ get_or s.c 0 (pos 0) = omega (arith, ints) in
    let p1 : machine c.from-2.result ≡ get_or s.c 1 (pos 0) = omega (arith, ints) in
    let p2 : machine c.from-3.result ≡ get_or s.c 2 (pos 0) = omega (arith, ints) in
    let p3 : machine c.from-4.result ≡ get_or s.c 3 (pos 0) = omega (arith, ints) in
    let all : machine c.from.result ∷ (machine c.from-2.result
    ∷ (machine c.from-3.result ∷ (machine c.from-4.result ∷ []))) ≡ s.c
    = (λ i. p0 i ∷ (p1 i ∷ (p2 i ∷ (p3 i ∷ [])))) ∙ sym (four s.c l) in
    λ i. record { c = all i }
