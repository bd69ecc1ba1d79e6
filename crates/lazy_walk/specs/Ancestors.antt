-- The ancestors of a frame's base, as the program finds them.
use Rattle.std.specs.Prelude.{◌≡◌, ℕ, ◌+◌, ◌<◌, ◌≤◌, ◌^◌, max, false, find, None, length}
use Rattle.theory_addresses.specs.Address.{Address}
use Rattle.cyclo_points.specs.Order.{points_of, is_refused}
use Rattle.cyclo_points.specs.Point.{point_in, IsOf, IsWithin}
use Rattle.cyclo_points.specs.Motion.{motion_in}
use Rattle.theory_frames.specs.Contain.{ancestor_motion}
use Rattle.rule_model.specs.Tiling.{Tiling}
use Rattle.theory_walks.specs.Ancestors.{full, factor_power, values_of_level}
use Rattle.theory_walks.specs.Frames.{FrameValue, IsFrameOf}
use Rattle.lazy_walk.specs.declared.ancestor.Ancestor.{Ancestor}

-- the program has found the ancestor at its level
pub record IsAncestor (t : Tiling) (f : Address) (a : Ancestor) : Type 0 where
  pub at_most_64 : a.level ≤ 64
  pub power_is : point_in t.order a.power ≡ factor_power t a.level
  pub motion_is : motion_in t.order a.motion ≡ ancestor_motion (points_of t.order) t.rule f a.level
  pub power_within : IsWithin (2 ^ 24) a.power
  pub turn_below : a.motion.turn < (points_of t.order).order
  pub shift_within : IsWithin (2 ^ 24) a.motion.shift
  pub in_order : IsOf t.order a.motion.shift

-- the program has found an ancestor that a frame has
pub record IsAncestorIn (t : Tiling) (f : FrameValue) (a : Ancestor) : Type 0 where
  pub frame : IsFrameOf t f
  pub deep : a.level ≤ length f.digits
  pub is_ancestor : IsAncestor t (full t f) a

-- The next ancestor outward from this level, of a frame that was f and is g: the frame has grown to it,
-- unless it was as deep already. Neither its power nor its shift is refused.
pub record IsNextOut (t : Tiling) (f g : FrameValue) (level : ℕ) (next : Ancestor) : Type 0 where
  pub one_more : next.level ≡ level + 1
  pub ancestor : IsAncestor t (full t f) next
  pub grown : length g.digits ≡ max (length f.digits) (level + 1)
  pub power_unrefused : is_refused t.order (factor_power t (level + 1)) ≡ false
  pub none_refused : find (is_refused t.order) (values_of_level t (full t f) (level + 1)) ≡ None
