use Rattle.std.proofs.Common.{◌<◌, ◌^◌, ap, subst, arith}
use Rattle.theory_substitution.specs.Plane.{plane_point}
use Rattle.cyclo_points.specs.Order.{points_of}
use Rattle.cyclo_points.proofs.Within.{point_wider}
use Rattle.dissect_check.proofs.stars.corner.Goals as goal

pub corner-requires-clause-i_in : goal.corner-requires-clause-i_in
corner-requires-clause-i_in c = subst (λ n. c.args.i < n) (c.requires.usable.numbered.vertex_each c.args.kind c.requires.kind_in) c.requires.i_in

pub returns-clause-place : goal.returns-clause-place
returns-clause-place c = ap (plane_point (points_of c.args.rule.now.order)) c.corner.ensures.number

pub returns-clause-within : goal.returns-clause-within
returns-clause-within c = point_wider 64 (2 ^ 25) c.corner.result (omega arith) c.corner.ensures.small.within
