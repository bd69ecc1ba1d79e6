use Rattle.std.proofs.Common.{arith, ◌∙◌, pos, neg_ℤ, ◌≡◌}
use Rattle.std.proofs.lemmas.Int.{ints}
use Rattle.cyclo_points.specs.Point.{quad_of}
use Rattle.cyclo_points.proofs.Identities.{pair_path}
use Rattle.cyclo_points.proofs.Readings.{machine}
use Rattle.cyclo_points.proofs.Dots.{dot_path, four_0, four_1}
use Rattle.cyclo_points.proofs.product.mul_four.Goals as goal

pub returns-clause-product : goal.returns-clause-product
returns-clause-product c =
    let p = quad_of c.args.p.now in
    let q = quad_of c.args.q.now in
    let r0 : machine c.dot-c0.result ≡ c.dot-c0.result = omega (arith, ints) in
    let r1 : machine c.dot-c1.result ≡ c.dot-c1.result = omega (arith, ints) in
    pair_path _ _
    (r0 ∙ c.dot-c0.ensures ∙ dot_path p _ _ _ _ q.a0 (neg_ℤ q.a1) (pos 0) (pos 0) (omega (arith, ints))
    (omega (arith, ints)) (omega (arith, ints)) (omega (arith, ints)) ∙ four_0 p q)
    (r1 ∙ c.dot-c1.ensures ∙ dot_path p _ _ _ _ q.a1 q.a0 (pos 0) (pos 0) (omega (arith, ints))
    (omega (arith, ints)) (omega (arith, ints)) (omega (arith, ints)) ∙ four_1 p q)
