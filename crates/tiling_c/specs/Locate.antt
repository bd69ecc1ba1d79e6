-- The tile of a supertile that holds a point, as plain numbers.
use Rattle.std.specs.Prelude.{◌≡◌, ◌↔◌, ◌⊎◌, ◌≤◌, ℕ, None}
use Rattle.cyclo_points.specs.Order.{NumberOf}
use Rattle.cyclo_points.specs.Point.{point_in}
use Rattle.cyclo_points.specs.Motion.{motion_in}
use Rattle.rule_model.specs.Tiling.{Tiling, MotionOf}
use Rattle.tile_place.specs.declared.placed_tile.PlacedTile.{PlacedTile}
use Rattle.tile_place.specs.Located.{IsOnlyTileHolding, IsOfSupertile, HasInside, first_refused_looked_at}
use Rattle.tile_place.specs.Searched.{placed_in}
use Rattle.tile_shape.specs.Views.{address_of}
use Rattle.c_values.specs.declared.plain_address.PlainAddress.{PlainAddress}
use Rattle.c_values.specs.declared.plain_point.PlainPoint.{PlainPoint}
use Rattle.c_values.specs.declared.plain_tile.PlainTile.{PlainTile}
use Rattle.c_values.specs.Addresses.{ShowsAddress}
use Rattle.c_values.specs.Statuses.{ok, bad_words, coord_limit, outside}
use Rattle.c_values.specs.Tiles.{motion_of}
use Rattle.c_values.specs.Windows.{point_given, IsNearby}
use Rattle.tiling_c.specs.Shown.{tile_shown}
use Rattle.tiling_c.specs.Shapes.{IsPlainTile}

-- the motion and the point that the numbers give in the order of a tiling
abbrev pub motion_given : (t : Tiling) → PlainTile → MotionOf t
motion_given t top = motion_in t.order (motion_of top)

abbrev pub number_given : (t : Tiling) → PlainPoint → NumberOf t.order
number_given t p = point_in t.order (point_given t.order p.c)

-- the numbers give a supertile of at most 64 levels, at its place, and a point
pub record AsksToLocate (t : Tiling) (top : PlainTile) (depth : ℕ) (p : PlainPoint) : Type 0 where
  pub tile : IsPlainTile t top
  pub no_deeper : depth ≤ 64
  pub near : IsNearby p.c

-- exactly one tile of the supertile of this kind and depth, moved by m, holds the point; these are its
-- numbers, and its address there
pub record ShowsLocated (t : Tiling) (kind depth : ℕ) (m : MotionOf t) (p : NumberOf t.order)
    (numbers : PlainTile) (addr : PlainAddress) : Type 0 where
  pub tile : PlacedTile
  pub only : IsOnlyTileHolding t kind depth m p (placed_in t.order tile)
  pub of_supertile : IsOfSupertile t depth tile
  pub its_numbers : numbers ≡ tile_shown tile
  pub its_address : ShowsAddress addr (address_of tile.addr)

-- Unless a value that is computed on the way is refused, the status is `ok` exactly if the supertile holds
-- the point, and `outside` exactly if it doesn't. Both statuses come only if no such value is refused.
pub record IsLocatedBy (t : Tiling) (kind depth : ℕ) (m : MotionOf t) (p : NumberOf t.order)
    (status : ℕ) : Type 0 where
  pub found : (status ≡ ok) ↔ ((first_refused_looked_at t kind depth m p ≡ None) × HasInside t kind depth m p)
  pub not_inside : (status ≡ outside)
      ↔ ((first_refused_looked_at t kind depth m p ≡ None) × (¬ HasInside t kind depth m p))

-- exactly this tile of the supertile of this kind and depth, moved by m, holds the point
pub record IsLocated (t : Tiling) (kind depth : ℕ) (m : MotionOf t) (p : NumberOf t.order)
    (tile : PlacedTile) : Type 0 where
  pub only : IsOnlyTileHolding t kind depth m p (placed_in t.order tile)
  pub of_supertile : IsOfSupertile t depth tile
  pub by : IsLocatedBy t kind depth m p ok

-- the numbers give a supertile and a point, and this is the tile that holds it
pub record GivesTile (t : Tiling) (top : PlainTile) (depth : ℕ) (p : PlainPoint)
    (tile : PlacedTile) : Type 0 where
  pub asks : AsksToLocate t top depth p
  pub located : IsLocated t top.kind depth (motion_given t top) (number_given t p) tile

-- they give them, and no tile is found
pub record FindsNone (t : Tiling) (top : PlainTile) (depth : ℕ) (p : PlainPoint) (status : ℕ) : Type 0 where
  pub asks : AsksToLocate t top depth p
  pub by : IsLocatedBy t top.kind depth (motion_given t top) (number_given t p) status
  pub statuses : (status ≡ coord_limit) ⊎ (status ≡ outside)

-- they give none, or no tile is found
abbrev pub RefusesPoint : Tiling → PlainTile → ℕ → PlainPoint → ℕ → Type 0
RefusesPoint t top depth p status = ((status ≡ bad_words) × (¬ AsksToLocate t top depth p))
    ⊎ FindsNone t top depth p status

-- what a call shows of a supertile and a point: the tile that holds it, or the status of a refusal
pub record ShowsLocate (t : Tiling) (top : PlainTile) (depth : ℕ) (p : PlainPoint) (numbers : PlainTile)
    (addr : PlainAddress) (status : ℕ) : Type 0 where
  -- in the plane: this is the only tile of the supertile that holds the point
  pub located : status ≡ ok
      → ShowsLocated t top.kind depth (motion_given t top) (number_given t p) numbers addr
  -- each refusal comes only for its cause
  pub by : AsksToLocate t top depth p
      → IsLocatedBy t top.kind depth (motion_given t top) (number_given t p) status
  pub not_asked : (status ≡ bad_words) ↔ (¬ AsksToLocate t top depth p)
  pub statuses : (status ≡ ok) ⊎ (status ≡ bad_words) ⊎ (status ≡ coord_limit) ⊎ (status ≡ outside)
