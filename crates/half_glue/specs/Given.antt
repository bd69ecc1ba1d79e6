-- Tiles that are given to be glued.
use Rattle.std.specs.Prelude.{◌≡◌, ℕ, ◌<◌, ◌≤◌, ◌^◌, List, All, length}
use Rattle.theory_substitution.specs.Supertile.{Placed}
use Rattle.cyclo_points.specs.Order.{NumberOf, points_of}
use Rattle.cyclo_points.specs.Point.{IsOf, IsWithin}
use Rattle.cyclo_points.specs.Motion.{motion_in}
use Rattle.theory_frames.specs.Frame.{IsTileOf, StandsInFrame, lifted_in}
use Rattle.rule_model.specs.Glue.{IsOnlyGlueEdge}
use Rattle.rule_model.specs.Tiling.{Tiling, children}
use Rattle.tile_place.specs.declared.placed_tile.PlacedTile.{PlacedTile}
use Rattle.tile_shape.specs.Views.{address_of}
use Rattle.theory_walks.specs.Frames.{FrameValue, whole, IsFrameOf}
use Rattle.theory_windows.specs.Limits.{most_tiles}

-- the tile, lifted to the depth of the frame, with its own motion
abbrev pub lifted_tile : (t : Tiling) → FrameValue → PlacedTile → Placed (NumberOf t.order)
lifted_tile t f x = record {
  address = lifted_in (whole f) (address_of x.addr);
  motion = motion_in t.order x.motion;
}

-- the tile is of the frame, with its motion there, and its shift is not refused
pub record IsGiven (t : Tiling) (f : FrameValue) (x : PlacedTile) : Type 0 where
  pub its_kind : x.kind ≡ x.addr.kind
  pub of_frame : IsTileOf (children t) (whole f) (address_of x.addr)
  pub in_frame : StandsInFrame (points_of t.order) t.rule (whole f) (lifted_in (whole f) (address_of x.addr))
      (motion_in t.order x.motion)
  pub turn_below : x.motion.turn < (points_of t.order).order
  pub in_order : IsOf t.order x.motion.shift
  pub within : IsWithin (2 ^ 24) x.motion.shift

-- the frame is one of the tiling, the tile is of it, and e is the only glue edge of the tile's kind
pub record IsToJoin (t : Tiling) (f : FrameValue) (x : PlacedTile) (e : ℕ) : Type 0 where
  pub frame : IsFrameOf t f
  pub given : IsGiven t f x
  pub glue_edge : IsOnlyGlueEdge t.rule x.kind e

-- this holds for each of these tiles
abbrev pub AreGiven : Tiling → FrameValue → List PlacedTile → Type 0
AreGiven t f tiles = All (IsGiven t f) tiles

-- the frame is one of the tiling, the tiles are of it, and they are not too many
pub record AreToGlue (t : Tiling) (f : FrameValue) (tiles : List PlacedTile) : Type 0 where
  pub frame : IsFrameOf t f
  pub few : length tiles ≤ most_tiles
  pub given : AreGiven t f tiles

-- number n is that of one of these tiles to glue
pub record IsToFind (t : Tiling) (f : FrameValue) (tiles : List PlacedTile) (n : ℕ) : Type 0 where
  pub to_glue : AreToGlue t f tiles
  pub below : n < length tiles
