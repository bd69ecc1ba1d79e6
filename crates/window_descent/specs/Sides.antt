-- The sides of a window that all of some points are inside of, and those that at least one of them is.
use Rattle.std.specs.Prelude.{◌≡◌, List}
use Rattle.std.specs.List.{list_all, list_any}
use Rattle.cyclo_points.specs.declared.order.Order.{Order}
use Rattle.cyclo_points.specs.declared.point.Point.{Point}
use Rattle.plane_geom.specs.declared.window.Window.{Window}
use Rattle.plane_geom.specs.Spots.{reals_of, spot_of}
use Rattle.theory_descents.specs.Insets.{inside_right, inside_left, inside_upper, inside_lower}
use Rattle.window_descent.specs.declared.sides.Sides.{Sides}
use Rattle.window_descent.specs.Standing.{window_box}

pub record AllSides (o : Order) (w : Window) (points : List Point) (s : Sides) : Type 0 where
  pub right : s.right ≡ list_all (λ p. inside_right (reals_of o) (window_box o w) (spot_of o p)) points
  pub left : s.left ≡ list_all (λ p. inside_left (reals_of o) (window_box o w) (spot_of o p)) points
  pub upper : s.upper ≡ list_all (λ p. inside_upper (reals_of o) (window_box o w) (spot_of o p)) points
  pub lower : s.lower ≡ list_all (λ p. inside_lower (reals_of o) (window_box o w) (spot_of o p)) points

pub record SomeSides (o : Order) (w : Window) (points : List Point) (s : Sides) : Type 0 where
  pub right : s.right ≡ list_any (λ p. inside_right (reals_of o) (window_box o w) (spot_of o p)) points
  pub left : s.left ≡ list_any (λ p. inside_left (reals_of o) (window_box o w) (spot_of o p)) points
  pub upper : s.upper ≡ list_any (λ p. inside_upper (reals_of o) (window_box o w) (spot_of o p)) points
  pub lower : s.lower ≡ list_any (λ p. inside_lower (reals_of o) (window_box o w) (spot_of o p)) points
