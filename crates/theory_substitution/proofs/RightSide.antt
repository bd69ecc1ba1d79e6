-- Test points close to the edges between points of an order.
use Rattle.std.proofs.Common.{ap}
use Rattle.theory_plane.specs.Plane.{PlanePoint}
use Rattle.theory_plane.proofs.Close.{points_right}
use Rattle.theory_substitution.specs.Points.{Points, PointLaws}
use Rattle.theory_substitution.specs.Plane.{plane_point, PointsRightOfEdges}

-- and for the edges between points of an order
pub points_right-edges : (P : Points) → PointLaws P → PointsRightOfEdges P
points_right-edges P W a b apart =
    points_right P.real W.of_real W.of_order (plane_point P a) (plane_point P b)
    (λ e. apart (W.separate a b (ap (λ (z : PlanePoint P.real.ops.carrier). z.x) e)
    (ap (λ (z : PlanePoint P.real.ops.carrier). z.y) e)))
