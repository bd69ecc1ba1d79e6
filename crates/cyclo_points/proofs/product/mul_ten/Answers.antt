use Rattle.std.proofs.Common.{arith, ◌∙◌, neg_ℤ, ◌+ℤ◌, ◌-ℤ◌, ◌≡◌}
use Rattle.std.proofs.lemmas.Int.{ints}
use Rattle.cyclo_points.specs.Point.{quad_of}
use Rattle.cyclo_points.proofs.Identities.{quad_path}
use Rattle.cyclo_points.proofs.Readings.{machine}
use Rattle.cyclo_points.proofs.ProductReadings.{sum_within, difference_within, negative_sum_within}
use Rattle.cyclo_points.proofs.Dots.{dot_path, ten_0, ten_1, ten_2, ten_3}
use Rattle.cyclo_points.proofs.product.mul_ten.Goals as goal

pub dot-c0-requires-clause-v2_within : goal.dot-c0-requires-clause-v2_within
dot-c0-requires-clause-v2_within c = negative_sum_within _ _ c.requires.q_within.at_2 c.requires.q_within.at_3

pub dot-c0-requires-clause-v3_within : goal.dot-c0-requires-clause-v3_within
dot-c0-requires-clause-v3_within c = negative_sum_within _ _ c.requires.q_within.at_1 c.requires.q_within.at_2

pub dot-c1-requires-clause-v1_within : goal.dot-c1-requires-clause-v1_within
dot-c1-requires-clause-v1_within c = sum_within _ _ c.requires.q_within.at_0 c.requires.q_within.at_3

pub dot-c1-requires-clause-v3_within : goal.dot-c1-requires-clause-v3_within
dot-c1-requires-clause-v3_within c = difference_within _ _ c.requires.q_within.at_1 c.requires.q_within.at_3

pub dot-c2-requires-clause-v1_within : goal.dot-c2-requires-clause-v1_within
dot-c2-requires-clause-v1_within c = difference_within _ _ c.requires.q_within.at_1 c.requires.q_within.at_3

pub dot-c2-requires-clause-v2_within : goal.dot-c2-requires-clause-v2_within
dot-c2-requires-clause-v2_within c = difference_within _ _ c.requires.q_within.at_0 c.requires.q_within.at_2

pub dot-c3-requires-clause-v1_within : goal.dot-c3-requires-clause-v1_within
dot-c3-requires-clause-v1_within c = sum_within _ _ c.requires.q_within.at_2 c.requires.q_within.at_3

pub dot-c3-requires-clause-v2_within : goal.dot-c3-requires-clause-v2_within
dot-c3-requires-clause-v2_within c = sum_within _ _ c.requires.q_within.at_1 c.requires.q_within.at_2

pub dot-c3-requires-clause-v3_within : goal.dot-c3-requires-clause-v3_within
dot-c3-requires-clause-v3_within c = sum_within _ _ c.requires.q_within.at_0 c.requires.q_within.at_1

pub returns : goal.returns
returns c =
    let p = quad_of c.args.p.now in
    let q = quad_of c.args.q.now in
    let r0 : machine c.dot-c0.result ≡ c.dot-c0.result = omega (arith, ints) in
    let r1 : machine c.dot-c1.result ≡ c.dot-c1.result = omega (arith, ints) in
    let r2 : machine c.dot-c2.result ≡ c.dot-c2.result = omega (arith, ints) in
    let r3 : machine c.dot-c3.result ≡ c.dot-c3.result = omega (arith, ints) in
    quad_path _ _
    (r0 ∙ c.dot-c0.ensures ∙ dot_path p _ _ _ _ q.a0 (neg_ℤ q.a3) (neg_ℤ (q.a2 +ℤ q.a3))
    (neg_ℤ (q.a1 +ℤ q.a2)) (omega (arith, ints)) (omega (arith, ints)) (omega (arith, ints))
    (omega (arith, ints)) ∙ ten_0 p q)
    (r1 ∙ c.dot-c1.ensures ∙ dot_path p _ _ _ _ q.a1 (q.a0 +ℤ q.a3) q.a2 (q.a1 -ℤ q.a3) (omega (arith, ints))
    (omega (arith, ints)) (omega (arith, ints)) (omega (arith, ints)) ∙ ten_1 p q)
    (r2 ∙ c.dot-c2.ensures ∙ dot_path p _ _ _ _ q.a2 (q.a1 -ℤ q.a3) (q.a0 -ℤ q.a2) (neg_ℤ q.a1)
    (omega (arith, ints)) (omega (arith, ints)) (omega (arith, ints)) (omega (arith, ints)) ∙ ten_2 p q)
    (r3 ∙ c.dot-c3.ensures ∙ dot_path p _ _ _ _ q.a3 (q.a2 +ℤ q.a3) (q.a1 +ℤ q.a2) (q.a0 +ℤ q.a1)
    (omega (arith, ints)) (omega (arith, ints)) (omega (arith, ints)) (omega (arith, ints)) ∙ ten_3 p q)
