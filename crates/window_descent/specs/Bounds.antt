-- Bounds for the vertices of a part in X and Y, and the sides of a window as limits for such bounds. Both are
-- witnesses: integers that have the sign of a number.
use Rattle.std.specs.Prelude.{◌≡◌, ◌⊎◌, ℕ, ℤ, ◌^◌, ◌<ℤ◌, ◌≤ℤ◌, Bool, true, false}
use Rattle.std.specs.List.{AllByRecursion}
use Rattle.theory_substitution.specs.Plane.{plane_point}
use Rattle.cyclo_points.specs.declared.order.Order.{Order}
use Rattle.cyclo_points.specs.declared.order.Order.TheVariants.{Four, Six, Eight, Ten}
use Rattle.cyclo_points.specs.declared.point.Point.{Point}
use Rattle.cyclo_points.specs.Order.{NumberOf, points_of}
use Rattle.cyclo_points.specs.Motion.{motion_in}
use Rattle.cyclo_points.specs.Point.{point_in, Within}
use Rattle.cyclo_points.specs.Real.{RealOf}
use Rattle.cyclo_points.specs.Witness.{witness_in}
use Rattle.theory_frames.specs.Outline.{outline}
use Rattle.plane_geom.specs.declared.window.Window.{Window}
use Rattle.plane_geom.specs.Spots.{PlanePointOf, reals_of}
use Rattle.rule_model.specs.declared.rule.Rule.{Rule}
use Rattle.rule_model.specs.Views.{rule_of}
use Rattle.theory_descents.specs.Insets.{inside_right, inside_left, inside_upper, inside_lower}
use Rattle.window_descent.specs.declared.bounds.Bounds.{Bounds}
use Rattle.window_descent.specs.declared.standing.Standing.{Standing}
use Rattle.window_descent.specs.declared.standing.Standing.TheVariants.{Beyond, Within as Inside, Across}
use Rattle.window_descent.specs.Standing.{window_box}
use Rattle.window_descent.specs.Parts.{only_turned}

-- the witness of a number: an integer with the number's sign, if the number is short enough
abbrev pub witness_of : (o : Order) → RealOf o → ℤ
witness_of Four r = r
witness_of Six r = r
witness_of Eight r = witness_in Eight r.a r.b
witness_of Ten r = witness_in Ten r.a r.b

-- the parts of a number are at most n in absolute value
abbrev pub IsShortNumber : (o : Order) → ℕ → RealOf o → Type 0
IsShortNumber Four n r = Within n r
IsShortNumber Six n r = Within n r
IsShortNumber Eight n r = Within n r.a × Within n r.b
IsShortNumber Ten n r = Within n r.a × Within n r.b

-- X and Y of the point are short, and their witnesses are within the bounds
pub record IsEnclosed (o : Order) (b : Bounds) (v : PlanePointOf o) : Type 0 where
  pub short_x : IsShortNumber o (2 ^ 23) v.x
  pub short_y : IsShortNumber o (2 ^ 23) v.y
  pub right : witness_of o v.x ≤ℤ b.right
  pub left : b.left ≤ℤ witness_of o v.x
  pub upper : witness_of o v.y ≤ℤ b.upper
  pub lower : b.lower ≤ℤ witness_of o v.y

-- this holds for each vertex of a scaled prototile that is turned and not shifted
abbrev pub AreBounds : Rule → Point → ℕ → ℕ → Bounds → Type 0
AreBounds m scale kind turn b = AllByRecursion (λ z. IsEnclosed m.order b (plane_point (points_of m.order) z))
    (outline (points_of m.order) (rule_of m) kind (point_in m.order scale)
    (motion_in m.order (only_turned turn)))

-- a test passes exactly if one integer is below another
pub record PassesBelow (test : Bool) (x y : ℤ) : Type 0 where
  pub passes : x <ℤ y → test ≡ true
  pub fails : y ≤ℤ x → test ≡ false

-- the position of a point that is shifted
abbrev pub shifted_spot : (o : Order) → Point → NumberOf o → PlanePointOf o
shifted_spot o shift z = plane_point (points_of o) ((points_of o).ring.add z (point_in o shift))

-- The limits for the witnesses of a point: it keeps within one if and only if the shifted point is inside
-- that side of the window.
pub record AreLimits (o : Order) (w : Window) (shift : Point) (b : Bounds) : Type 0 where
  pub right : (z : NumberOf o) → IsShortNumber o (2 ^ 23) ((points_of o).x z)
      → PassesBelow (inside_right (reals_of o) (window_box o w) (shifted_spot o shift z))
      (witness_of o ((points_of o).x z)) b.right
  pub left : (z : NumberOf o) → IsShortNumber o (2 ^ 23) ((points_of o).x z)
      → PassesBelow (inside_left (reals_of o) (window_box o w) (shifted_spot o shift z))
      b.left (witness_of o ((points_of o).x z))
  pub upper : (z : NumberOf o) → IsShortNumber o (2 ^ 23) ((points_of o).y z)
      → PassesBelow (inside_upper (reals_of o) (window_box o w) (shifted_spot o shift z))
      (witness_of o ((points_of o).y z)) b.upper
  pub lower : (z : NumberOf o) → IsShortNumber o (2 ^ 23) ((points_of o).y z)
      → PassesBelow (inside_lower (reals_of o) (window_box o w) (shifted_spot o shift z))
      b.lower (witness_of o ((points_of o).y z))

-- the bounds are within all limits
pub record AreWithin (b limits : Bounds) : Type 0 where
  pub right : b.right <ℤ limits.right
  pub left : limits.left <ℤ b.left
  pub upper : b.upper <ℤ limits.upper
  pub lower : limits.lower <ℤ b.lower

-- how bounds lie to limits: beyond one of them, or within all; otherwise they leave it open
abbrev pub LiesBetween : Bounds → Bounds → Standing → Type 0
LiesBetween b limits Beyond = ((limits.right ≤ℤ b.left) ⊎ (b.right ≤ℤ limits.left))
    ⊎ ((limits.upper ≤ℤ b.lower) ⊎ (b.upper ≤ℤ limits.lower))
LiesBetween b limits Inside = AreWithin b limits
LiesBetween b limits Across = Unit {0}
