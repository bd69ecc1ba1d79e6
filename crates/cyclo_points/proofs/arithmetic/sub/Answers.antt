use Rattle.std.proofs.Common.{◌+◌}
use Rattle.theory_ring.specs.Ring.{integers}
use Rattle.cyclo_points.specs.Quad.{add_quad, neg_quad}
use Rattle.cyclo_points.specs.Point.{quad_of}
use Rattle.cyclo_points.proofs.Readings.{difference_point, difference_point-is}
use Rattle.cyclo_points.proofs.Sizes.{quad_within, within_quad, quads_within_sum, quads_within_negative, point_in-difference, in_order-difference}
use Rattle.cyclo_points.proofs.arithmetic.sub.Goals as goal

pub returns-clause-is_difference : goal.returns-clause-is_difference
returns-clause-is_difference c =
    let p = c.args.p.now in
    let q = c.args.q.now in
    λ o. point_in-difference o (difference_point p q) p q (difference_point-is p q c.requires.p_within c.requires.q_within)

pub returns-clause-bounded : goal.returns-clause-bounded
returns-clause-bounded c =
    let p = c.args.p.now in
    let q = c.args.q.now in
    λ m k f g. within_quad (m + k) (difference_point p q)
    (add_quad integers (quad_of p) (neg_quad integers (quad_of q)))
    (difference_point-is p q c.requires.p_within c.requires.q_within)
    (quads_within_sum m k (quad_of p) (neg_quad integers (quad_of q)) (quad_within m p f) (quads_within_negative k (quad_of q) (quad_within k q g)))

pub returns-clause-in_order : goal.returns-clause-in_order
returns-clause-in_order c =
    let p = c.args.p.now in
    let q = c.args.q.now in
    λ o. in_order-difference o (difference_point p q) p q (difference_point-is p q c.requires.p_within c.requires.q_within)
