use Rattle.std.proofs.Common.{◌≡◌, length, arith, ap₂, ◌∙◌, sym}
use Rattle.std.proofs.lemmas.Grind.{common_steps}
use Rattle.std.specs.Prelude.{int_lt}
use Rattle.std.proofs.lemmas.Int.{ints}
use Rattle.cyclo_points.specs.Point.{coefficient}
use Rattle.cyclo_points.proofs.Readings.{machine}
use Rattle.tile_place.proofs.SamePoint.{last_decides}
use Rattle.tile_place.proofs.compared.is_above.Goals as goal

pub returns : goal.returns
returns c =
    let p = c.args.p.now in
    let q = c.args.q.now in
    let l : length p.c ≡ 4 = omega arith in
    let m : length q.c ≡ 4 = omega arith in
    let first : coefficient p 0 ≡ coefficient q 0 = omega (arith, ints, c.if-p-q.false) in
    let second : coefficient p 1 ≡ coefficient q 1 = omega (arith, ints, c.if-p-q-2.false) in
    let third : coefficient p 2 ≡ coefficient q 2 = omega (arith, ints, c.if-p-q-3.false) in
    let p3 : machine (coefficient p 3) ≡ coefficient p 3 = omega (arith, ints) in
    let q3 : machine (coefficient q 3) ≡ coefficient q 3 = omega (arith, ints) in
    ap₂ int_lt q3 p3 ∙ sym (last_decides p q l m first second third)

pub returns-then-p-q : goal.returns-then-p-q
returns-then-p-q c = grind (arith, common_steps)
