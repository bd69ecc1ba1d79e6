-- The point of four coefficients is the only point of its order with its number.
use Rattle.std.proofs.Common.{◌≡◌, ℤ, List, length, ap, ◌∙◌}
use Rattle.cyclo_points.specs.declared.order.Order.{Order}
use Rattle.cyclo_points.specs.declared.point.Point.{Point}
use Rattle.cyclo_points.specs.Order.{points_of, coefficients}
use Rattle.cyclo_points.specs.Point.{point_in, quad_of, IsOf}
use Rattle.cyclo_points.specs.Reduced.{combination}
use Rattle.cyclo_points.proofs.Coefficients.{coefficients_of}
use Rattle.plane_geom.specs.declared.window.Window.{Window}
use Rattle.c_values.specs.declared.plain_window.PlainWindow.{PlainWindow}
use Rattle.c_values.specs.Windows.{point_given, window_in}

pub given-is : (o : Order) (c : List ℤ) (q : Point) → length q.c ≡ 4 → IsOf o q
    → point_in o q ≡ combination (points_of o) (quad_of (record { c = c })) → q ≡ point_given o c
given-is o c q four of e = ap (λ (c : List ℤ). (let s : Point = record { c = c } in s)) (coefficients_of o q four of ∙ ap (coefficients o) e)

pub window-is : (o : Order) (p : PlainWindow) (q : Point) → q ≡ point_given o p.at
    → (let w : Window = record { centre = q; w = p.w; h = p.h } in w) ≡ window_in o p
window-is o p q e = ap (λ c. (let w : Window = record { centre = c; w = p.w; h = p.h } in w)) e
