-- The tile of a frame that holds a point, as plain numbers.
use Rattle.std.specs.Prelude.{◌≡◌, ◌↔◌, ◌⊎◌, ℕ, ◌<◌, ◌≤◌, length, None}
use Rattle.cyclo_points.specs.Order.{NumberOf}
use Rattle.theory_walks.specs.Containing.{FrameHolds, IsOnlyHolder, first_refused_outward}
use Rattle.theory_walks.specs.Frames.{FrameValue, GrowsTo, at_depth}
use Rattle.lazy_walk.specs.Standing.{Stands}
use Rattle.rule_model.specs.Tiling.{Tiling}
use Rattle.tile_place.specs.declared.placed_tile.PlacedTile.{PlacedTile}
use Rattle.tile_place.specs.Searched.{placed_in}
use Rattle.tile_shape.specs.Views.{address_of}
use Rattle.c_values.specs.declared.plain_address.PlainAddress.{PlainAddress}
use Rattle.c_values.specs.declared.plain_frame.PlainFrame.{PlainFrame}
use Rattle.c_values.specs.declared.plain_point.PlainPoint.{PlainPoint}
use Rattle.c_values.specs.declared.plain_tile.PlainTile.{PlainTile}
use Rattle.c_values.specs.Addresses.{NamesTile, ShowsAddress}
use Rattle.c_values.specs.Frames.{frame_in}
use Rattle.c_values.specs.Statuses.{ok, bad_words, bad_address, coord_limit}
use Rattle.c_values.specs.Windows.{IsNearby}
use Rattle.tiling_c.specs.Locate.{number_given}
use Rattle.tiling_c.specs.Shown.{tile_shown}

-- The frame has grown from `start` to the least depth at which it holds the point. Exactly one of its tiles
-- there holds the point, which is this one.
pub record IsTileAtPoint (t : Tiling) (start : FrameValue) (p : NumberOf t.order)
    (tile : PlacedTile) : Type 0 where
  pub frame : FrameValue
  pub grown : GrowsTo t start frame
  pub least : (n : ℕ) → length start.digits ≤ n → n < length frame.digits
      → ¬ FrameHolds t (at_depth t n start) p
  pub only : IsOnlyHolder t frame p (placed_in t.order tile)
  pub stands : Stands t frame tile
  pub found : first_refused_outward t start p ≡ None

-- these are its numbers and its address
pub record ShowsHolder (t : Tiling) (start : FrameValue) (p : NumberOf t.order) (numbers : PlainTile)
    (addr : PlainAddress) : Type 0 where
  pub tile : PlacedTile
  pub holder : IsTileAtPoint t start p tile
  pub its_numbers : numbers ≡ tile_shown tile
  pub its_address : ShowsAddress addr (address_of tile.addr)

-- the numbers give a frame and a point, and this tile holds it
pub record GivesHolder (t : Tiling) (frame : PlainFrame) (p : PlainPoint) (tile : PlacedTile) : Type 0 where
  pub near : IsNearby p.c
  pub named : NamesTile t frame.base
  pub holder : IsTileAtPoint t (frame_in frame) (number_given t p) tile

-- they give them, and a value on the way is refused
pub record StopsHolder (t : Tiling) (frame : PlainFrame) (p : PlainPoint) (status : ℕ) : Type 0 where
  pub near : IsNearby p.c
  pub named : NamesTile t frame.base
  pub is_status : status ≡ coord_limit
  pub refused : ¬ first_refused_outward t (frame_in frame) (number_given t p) ≡ None

-- they give no point, no frame, or a value on the way is refused
abbrev pub RefusesHolder : Tiling → PlainFrame → PlainPoint → ℕ → Type 0
RefusesHolder t frame p status = ((status ≡ bad_words) × (¬ IsNearby p.c))
    ⊎ ((status ≡ bad_address) × IsNearby p.c × (¬ NamesTile t frame.base)) ⊎ StopsHolder t frame p status

-- what a call shows of a frame and a point: the tile that holds it, or the status of a refusal
pub record ShowsAt (t : Tiling) (frame : PlainFrame) (p : PlainPoint) (numbers : PlainTile)
    (addr : PlainAddress) (status : ℕ) : Type 0 where
  -- in the plane: this is the only tile of the frame that holds the point, at the least depth at which the
  -- frame holds it
  pub holds : status ≡ ok → ShowsHolder t (frame_in frame) (number_given t p) numbers addr
  -- Each refusal comes only for its cause. `coord_limit` comes exactly if a value on the way is refused.
  pub found : NamesTile t frame.base → IsNearby p.c
      → (status ≡ ok) ↔ (first_refused_outward t (frame_in frame) (number_given t p) ≡ None)
  pub not_asked : (status ≡ bad_words) ↔ (¬ IsNearby p.c)
  pub names_none : (status ≡ bad_address) ↔ (IsNearby p.c × (¬ NamesTile t frame.base))
  pub statuses : (status ≡ ok) ⊎ (status ≡ bad_words) ⊎ (status ≡ bad_address) ⊎ (status ≡ coord_limit)
