-- The answer of the box test by its definition.
use Rattle.std.proofs.Common.{◌≡◌, ◌↔◌, Bool, true, false, IsTrue, refl, sym}
use Rattle.theory_ring.specs.Divisor.{DividesWhole}
use Rattle.theory_plane.specs.Box.{EdgeMeetsBox}
use Rattle.theory_plane.proofs.BoxMeets.{box_test-exact}
use Rattle.theory_substitution.specs.Plane.{plane_point}
use Rattle.cyclo_points.specs.declared.order.Order.{Order}
use Rattle.cyclo_points.specs.declared.point.Point.{Point}
use Rattle.cyclo_points.specs.Order.{points_of, PointsLaw}
use Rattle.cyclo_points.specs.Point.{point_in}
use Rattle.plane_geom.specs.declared.window.Window.{Window}
use Rattle.window_cover.specs.Windows.{window_box}
use Rattle.window_cover.specs.NewEdges.{meets_window}

-- two tests are one where each passes with the other
pub same_tests : (a b : Bool) → (a ≡ true → b ≡ true) → (b ≡ true → a ≡ true) → a ≡ b
same_tests true b f g = sym (f refl)
same_tests false true f g = g refl
same_tests false false f g = refl

pub meets_window-is : (o : Order) (W : PointsLaw o) → DividesWhole (points_of o).real → (w : Window) (a b : Point) (r : Bool)
    → IsTrue r ↔ EdgeMeetsBox (points_of o).real (plane_point (points_of o) (point_in o a))
    (plane_point (points_of o) (point_in o b)) (window_box o w)
    → r ≡ meets_window o w a b
unfolding meets_window
meets_window-is o W whole w a b r h =
    let e = box_test-exact (points_of o).real W.of_real W.of_order whole
    (plane_point (points_of o) (point_in o a)) (plane_point (points_of o) (point_in o b))
    (window_box o w) in
    same_tests r _ (λ k. e.1 (h.0 k)) (λ k. h.1 (e.0 k))
