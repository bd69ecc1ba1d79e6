use Rattle.theory_ring.specs.Ring.{integers}
use Rattle.cyclo_points.specs.Quad.{neg_quad}
use Rattle.cyclo_points.specs.Point.{quad_of}
use Rattle.cyclo_points.proofs.Readings.{negative_point, negative_point-is}
use Rattle.cyclo_points.proofs.Sizes.{quad_within, within_quad, quads_within_negative, point_in-neg, in_order-neg}
use Rattle.cyclo_points.proofs.rotation.opposite.Goals as goal

pub returns-clause-negative : goal.returns-clause-negative
returns-clause-negative c = λ o. point_in-neg o (negative_point c.args.p.now) c.args.p.now (negative_point-is c.args.p.now c.requires)

pub returns-clause-as_large : goal.returns-clause-as_large
returns-clause-as_large c =
    λ m h. within_quad m (negative_point c.args.p.now) (neg_quad integers (quad_of c.args.p.now)) (negative_point-is c.args.p.now c.requires)
    (quads_within_negative m (quad_of c.args.p.now) (quad_within m c.args.p.now h))

pub returns-clause-in_order : goal.returns-clause-in_order
returns-clause-in_order c = λ o. in_order-neg o (negative_point c.args.p.now) c.args.p.now (negative_point-is c.args.p.now c.requires)
