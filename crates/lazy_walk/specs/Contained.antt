-- The tile of a frame that holds a point, as the program finds it.
use Rattle.std.specs.Prelude.{◌≡◌, ◌^◌, Some}
use Rattle.cyclo_points.specs.Order.{NumberOf}
use Rattle.cyclo_points.specs.Point.{point_in, IsOf, IsWithin}
use Rattle.rule_model.specs.Tiling.{Tiling}
use Rattle.tile_place.specs.declared.coord_limit.CoordLimit.{CoordLimit}
use Rattle.tile_place.specs.declared.placed_tile.PlacedTile.{PlacedTile}
use Rattle.tile_place.specs.Searched.{placed_in}
use Rattle.theory_walks.specs.Containing.{FrameHolds, IsOnlyHolder, first_refused_outward}
use Rattle.theory_walks.specs.Frames.{FrameValue}
use Rattle.lazy_walk.specs.Standing.{Stands}

-- the frame holds the point, and this tile of it, in its place, does so and no other
pub record IsContained (t : Tiling) (f : FrameValue) (p : NumberOf t.order) (tile : PlacedTile) : Type 0 where
  pub only_tile : IsOnlyHolder t f p (placed_in t.order tile)
  pub stands : Stands t f tile
  pub shift_within : IsWithin (2 ^ 24) tile.motion.shift
  pub held : FrameHolds t f p

-- the first refused value on the way outward to the point, as a point of its order
pub record IsRefusedOutward (t : Tiling) (f : FrameValue) (p : NumberOf t.order)
    (limit : CoordLimit) : Type 0 where
  pub first : first_refused_outward t f p ≡ Some (point_in t.order limit.value)
  pub in_order : IsOf t.order limit.value
