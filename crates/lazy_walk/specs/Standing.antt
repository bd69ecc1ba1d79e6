-- A tile in its place in a frame.
use Rattle.std.specs.Prelude.{◌≡◌, ◌<◌, length}
use Rattle.theory_addresses.specs.Address.{depth}
use Rattle.cyclo_points.specs.Order.{points_of}
use Rattle.cyclo_points.specs.Point.{IsOf}
use Rattle.cyclo_points.specs.Motion.{motion_in}
use Rattle.theory_frames.specs.Frame.{StandsInFrame, IsTileOf}
use Rattle.rule_model.specs.Tiling.{Tiling, children}
use Rattle.tile_place.specs.declared.placed_tile.PlacedTile.{PlacedTile}
use Rattle.tile_shape.specs.Views.{address_of}
use Rattle.theory_walks.specs.Frames.{FrameValue, whole}

-- the tile names one of the frame's supertile, and its motion is listed with its address there, in the base's
-- frame, and no other is
pub record Stands (t : Tiling) (f : FrameValue) (tile : PlacedTile) : Type 0 where
  pub its_kind : tile.kind ≡ tile.addr.kind
  pub of_frame : IsTileOf (children t) (whole f) (address_of tile.addr)
  pub at_depth : depth (address_of tile.addr) ≡ length f.digits
  pub in_frame : StandsInFrame (points_of t.order) t.rule (whole f) (address_of tile.addr)
      (motion_in t.order tile.motion)
  pub turn_below : tile.motion.turn < (points_of t.order).order
  pub in_order : IsOf t.order tile.motion.shift
