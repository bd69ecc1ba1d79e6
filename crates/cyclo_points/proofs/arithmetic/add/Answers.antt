use Rattle.std.proofs.Common.{◌+◌}
use Rattle.theory_ring.specs.Ring.{integers}
use Rattle.cyclo_points.specs.Quad.{add_quad}
use Rattle.cyclo_points.specs.Point.{quad_of}
use Rattle.cyclo_points.proofs.Readings.{sum_point, sum_point-is}
use Rattle.cyclo_points.proofs.Sizes.{quad_within, within_quad, quads_within_sum, point_in-add, in_order-add}
use Rattle.cyclo_points.proofs.arithmetic.add.Goals as goal

pub returns-clause-sum : goal.returns-clause-sum
returns-clause-sum c =
    let p = c.args.p.now in
    let q = c.args.q.now in
    λ o. point_in-add o (sum_point p q) p q (sum_point-is p q c.requires.p_within c.requires.q_within)

pub returns-clause-bounded : goal.returns-clause-bounded
returns-clause-bounded c =
    let p = c.args.p.now in
    let q = c.args.q.now in
    λ m k f g. within_quad (m + k) (sum_point p q) (add_quad integers (quad_of p) (quad_of q))
    (sum_point-is p q c.requires.p_within c.requires.q_within)
    (quads_within_sum m k (quad_of p) (quad_of q) (quad_within m p f) (quad_within k q g))

pub returns-clause-in_order : goal.returns-clause-in_order
returns-clause-in_order c =
    let p = c.args.p.now in
    let q = c.args.q.now in
    λ o. in_order-add o (sum_point p q) p q (sum_point-is p q c.requires.p_within c.requires.q_within)
