use Rattle.cyclo_points.specs.Order.{points_of}
use Rattle.theory_plane.proofs.Close.{points_right}
use Rattle.theory_substitution.proofs.RightSide.{points_right-edges}
use Rattle.plane_geom.proofs.right_side.right_side_law.Goals as goal

pub returns-clause-in_the_plane : goal.returns-clause-in_the_plane
returns-clause-in_the_plane c = let w = c.points_law.ensures in points_right (points_of c.args.order).real w.of_real w.of_order

pub returns-clause-of_edges : goal.returns-clause-of_edges
returns-clause-of_edges c = points_right-edges (points_of c.args.order) c.points_law.ensures
