-- What a layer may be given: a view and tiles whose points have small coefficients.
use Rattle.std.specs.Prelude.{◌≤◌, ◌^◌, length, All}
use Rattle.cyclo_points.specs.declared.order.Order.{Order}
use Rattle.cyclo_points.specs.declared.point.Point.{Point}
use Rattle.cyclo_points.specs.Point.{IsOf, IsWithin}
use Rattle.layer_api.specs.declared.drawn.Drawn.{Drawn}
use Rattle.layer_api.specs.declared.view.View.{View}

-- a point of the order, with coefficients of at most 2^25
pub record IsNear (o : Order) (p : Point) : Type 0 where
  pub of_order : IsOf o p
  pub within : IsWithin (2 ^ 25) p

-- the view's centre is such a point
abbrev pub IsView : View → Type 0
IsView v = IsNear v.order v.centre

-- the outline has at least 3 vertices, and each is such a point
pub record IsDrawable (o : Order) (d : Drawn) : Type 0 where
  pub three : 3 ≤ length d.outline.items
  pub near : All (IsNear o) d.outline.items
