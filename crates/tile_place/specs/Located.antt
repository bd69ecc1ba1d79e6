-- What is answered of a point in a supertile that is moved.
use Rattle.std.specs.Prelude.{◌≡◌, ℕ, ◌<◌, ◌≤◌, ◌^◌, true, List, length, map, find, None, Some}
use Rattle.std.specs.declared.option.Option.{Option}
use Rattle.theory_addresses.specs.Address.{depth, Fits}
use Rattle.theory_addresses.specs.Search.{IsAmong}
use Rattle.theory_substitution.specs.Motion.{followed}
use Rattle.theory_substitution.specs.Plane.{plane_point}
use Rattle.theory_substitution.specs.Supertile.{Placed, supertile}
use Rattle.theory_plane.specs.Plane.{test_point}
use Rattle.theory_plane.specs.Crossing.{member}
use Rattle.theory_dissection.specs.Polygons.{tile_polygon}
use Rattle.theory_frames.specs.Outline.{supertile_holds}
use Rattle.theory_frames.specs.Looked.{values_looked_at}
use Rattle.cyclo_points.specs.Order.{NumberOf, points_of, is_refused}
use Rattle.cyclo_points.specs.Point.{point_in, IsOf}
use Rattle.rule_model.specs.Tiling.{Tiling, MotionOf, children}
use Rattle.tile_shape.specs.Views.{address_of}
use Rattle.tile_place.specs.declared.locate_fault.LocateFault.{LocateFault}
use Rattle.tile_place.specs.declared.locate_fault.LocateFault.TheVariants.{NotInside, CoordLimit}
use Rattle.tile_place.specs.declared.placed_tile.PlacedTile.{PlacedTile}
use Rattle.tile_place.specs.Motions.{IsMotionOf}

-- there is a supertile of kind k and depth n: the kind exists, and the depth is at most 64
pub record HasSupertile (t : Tiling) (k n : ℕ) : Type 0 where
  pub exists : k < length t.rule.kinds
  pub at_most_64 : n ≤ 64

-- the tile has an address of n digits that fits, and its own kind is the address's; its motion is within the
-- limits
pub record IsOfSupertile (t : Tiling) (n : ℕ) (x : PlacedTile) : Type 0 where
  pub its_kind : x.kind ≡ x.addr.kind
  pub its_depth : depth (address_of x.addr) ≡ n
  pub its_address : Fits (children t) (address_of x.addr)
  pub moves : IsMotionOf t.order (2 ^ 24) x.motion

-- the tiles of the supertile of kind k and depth n, moved by m: the motion of each in the supertile, followed
-- by m
abbrev pub moved_tiles : (t : Tiling) → ℕ → ℕ → MotionOf t → List (Placed (NumberOf t.order))
moved_tiles t k n m =
    map (λ (x : Placed (NumberOf t.order)). record
    { address = x.address; motion = followed (points_of t.order) x.motion m })
    (supertile (points_of t.order) t.rule k n)

-- a tile is one of them, and the point belongs to its polygon
pub record IsTileHolding (t : Tiling) (k n : ℕ) (m : MotionOf t) (p : NumberOf t.order)
    (x : Placed (NumberOf t.order)) : Type 0 where
  pub among : IsAmong x (moved_tiles t k n m)
  pub holds : member (points_of t.order).real (tile_polygon (points_of t.order) t.rule (λ z. z) x)
      (test_point (points_of t.order).real.ops (plane_point (points_of t.order) p)) ≡ true

-- and no other tile of them does
pub record IsOnlyTileHolding (t : Tiling) (k n : ℕ) (m : MotionOf t) (p : NumberOf t.order)
    (x : Placed (NumberOf t.order)) : Type 0 where
  pub here : IsTileHolding t k n m p x
  pub only : (y : Placed (NumberOf t.order)) → IsTileHolding t k n m p y → y ≡ x

-- the supertile of kind k and depth n, moved by m, holds the point: its count there is 1
abbrev pub HasInside : (t : Tiling) → ℕ → ℕ → MotionOf t → NumberOf t.order → Type 0
HasInside t k n m p = supertile_holds (points_of t.order) t.rule k n m p ≡ true

-- the first refused value of those looked at for the point in that supertile
abbrev pub first_refused_looked_at : (t : Tiling) → ℕ → ℕ → MotionOf t → NumberOf t.order
    → Option (NumberOf t.order)
first_refused_looked_at t k n m p =
    find (is_refused t.order) (values_looked_at (points_of t.order) t.rule k n m p)

-- the cause of each fault: no value on the way is refused and the supertile does not hold the point, or this
-- is the first that is refused
abbrev pub IsCauseOf : (t : Tiling) → ℕ → ℕ → MotionOf t → NumberOf t.order → LocateFault → Type 0
IsCauseOf t k n m p NotInside = (first_refused_looked_at t k n m p ≡ None) × (¬ HasInside t k n m p)
IsCauseOf t k n m p (CoordLimit v) = (first_refused_looked_at t k n m p ≡ Some (point_in t.order v))
    × IsOf t.order v
