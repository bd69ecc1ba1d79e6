use Rattle.std.proofs.Common.{arith, ◌∙◌, neg_ℤ, ◌≡◌}
use Rattle.std.proofs.lemmas.Int.{ints}
use Rattle.cyclo_points.specs.Point.{quad_of}
use Rattle.cyclo_points.proofs.Identities.{quad_path}
use Rattle.cyclo_points.proofs.Readings.{machine}
use Rattle.cyclo_points.proofs.Dots.{dot_path, eight_0, eight_1, eight_2, eight_3}
use Rattle.cyclo_points.proofs.product.mul_eight.Goals as goal

pub returns : goal.returns
returns c =
    let p = quad_of c.args.p.now in
    let q = quad_of c.args.q.now in
    let r0 : machine c.dot-c0.result ≡ c.dot-c0.result = omega (arith, ints) in
    let r1 : machine c.dot-c1.result ≡ c.dot-c1.result = omega (arith, ints) in
    let r2 : machine c.dot-c2.result ≡ c.dot-c2.result = omega (arith, ints) in
    let r3 : machine c.dot-c3.result ≡ c.dot-c3.result = omega (arith, ints) in
    quad_path _ _
    (r0 ∙ c.dot-c0.ensures ∙ dot_path p _ _ _ _ q.a0 (neg_ℤ q.a3) (neg_ℤ q.a2) (neg_ℤ q.a1)
    (omega (arith, ints)) (omega (arith, ints)) (omega (arith, ints)) (omega (arith, ints)) ∙ eight_0 p q)
    (r1 ∙ c.dot-c1.ensures ∙ dot_path p _ _ _ _ q.a1 q.a0 (neg_ℤ q.a3) (neg_ℤ q.a2) (omega (arith, ints))
    (omega (arith, ints)) (omega (arith, ints)) (omega (arith, ints)) ∙ eight_1 p q)
    (r2 ∙ c.dot-c2.ensures ∙ dot_path p _ _ _ _ q.a2 q.a1 q.a0 (neg_ℤ q.a3) (omega (arith, ints))
    (omega (arith, ints)) (omega (arith, ints)) (omega (arith, ints)) ∙ eight_2 p q)
    (r3 ∙ c.dot-c3.ensures ∙ dot_path p _ _ _ _ q.a3 q.a2 q.a1 q.a0 (omega (arith, ints))
    (omega (arith, ints)) (omega (arith, ints)) (omega (arith, ints)) ∙ eight_3 p q)
