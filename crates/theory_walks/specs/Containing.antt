-- The tile of a frame that holds a point, and the values that are looked at on the way to it.
use Rattle.std.specs.Prelude.{length, find}
use Rattle.std.specs.declared.option.Option.{Option}
use Rattle.theory_addresses.specs.Address.{top_kind}
use Rattle.cyclo_points.specs.Order.{NumberOf, points_of, is_refused}
use Rattle.theory_frames.specs.Back.{back}
use Rattle.theory_frames.specs.Contain.{values_outward}
use Rattle.rule_model.specs.Tiling.{Tiling, MotionOf}
use Rattle.theory_substitution.specs.Placement.{placement}
use Rattle.theory_substitution.specs.Supertile.{Placed}
use Rattle.tile_place.specs.Located.{IsOnlyTileHolding, HasInside}
use Rattle.theory_walks.specs.Frames.{FrameValue, whole, at_depth}

-- the motion of the frame's supertile in the base's frame: the base's motion back
abbrev pub frame_motion : (t : Tiling) → FrameValue → MotionOf t
frame_motion t f = back (points_of t.order) (placement (points_of t.order) t.rule f.digits)

-- the frame's polygon holds the point
abbrev pub FrameHolds : (t : Tiling) → FrameValue → NumberOf t.order → Type 0
FrameHolds t f p = HasInside t (top_kind (whole f)) (length f.digits) (frame_motion t f) p

-- of all tiles of the frame, each in its place there, this one holds the point and no other does
abbrev pub IsOnlyHolder : (t : Tiling) → FrameValue → NumberOf t.order → Placed (NumberOf t.order) → Type 0
IsOnlyHolder t f p x = IsOnlyTileHolding t (top_kind (whole f)) (length f.digits) (frame_motion t f) p x

-- the first refused value of those looked at for the point, from the base outward and up to level 64
abbrev pub first_refused_outward : (t : Tiling) → FrameValue → NumberOf t.order → Option (NumberOf t.order)
first_refused_outward t f p =
    find (is_refused t.order) (values_outward (points_of t.order) t.rule (whole (at_depth t 64 f)) p 0 65)
