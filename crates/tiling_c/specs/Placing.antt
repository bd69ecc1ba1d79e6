-- Where tiles lie in their supertiles, as plain numbers.
use Rattle.std.specs.Prelude.{◌≡◌, ◌↔◌, ◌⊎◌, ◌<◌, ℕ, List, length, None, IsSome}
use Rattle.cyclo_points.specs.declared.motion.Motion.{Motion}
use Rattle.cyclo_points.specs.Order.{points_of}
use Rattle.cyclo_points.specs.Point.{IsOf}
use Rattle.cyclo_points.specs.Motion.{motion_in}
use Rattle.rule_model.specs.Tiling.{Tiling, IsPlaced}
use Rattle.tile_place.specs.Placing.{first_refused}
use Rattle.c_values.specs.declared.plain_address.PlainAddress.{PlainAddress}
use Rattle.c_values.specs.declared.plain_tile.PlainTile.{PlainTile}
use Rattle.c_values.specs.Addresses.{address_in, NamesTile}
use Rattle.c_values.specs.Statuses.{ok, bad_words, bad_address, coord_limit}
use Rattle.c_values.specs.Tiles.{motion_of, tile_as, refused_as}
use Rattle.tiling_c.specs.Arrays.{plain_tile_at, plain_address_at}

-- the numbers name a tile, and this is its motion in its supertile
pub record GivesPlace (t : Tiling) (addr : PlainAddress) (m : Motion) : Type 0 where
  pub named : NamesTile t addr
  pub placed : IsPlaced t (address_in addr) (motion_in t.order m)
  pub turn_below : m.turn < (points_of t.order).order
  pub in_order : IsOf t.order m.shift
  pub within : first_refused t (address_in addr).digits ≡ None

-- they name none, or a value on the way is refused
abbrev pub RefusesPlace : Tiling → PlainAddress → ℕ → Type 0
RefusesPlace t addr status = ((status ≡ bad_address) × (¬ NamesTile t addr))
    ⊎ ((status ≡ coord_limit) × NamesTile t addr × IsSome (first_refused t (address_in addr).digits))

-- what a call shows of an address: where its tile lies in its supertile, or the status of a refusal
pub record ShowsPlace (t : Tiling) (addr : PlainAddress) (tile : PlainTile) (status : ℕ) : Type 0 where
  -- The tile's motion in the supertile that its address names. The shift's coefficients are those of the
  -- order, and no value of Horner's scheme is refused.
  pub placed : status ≡ ok → IsPlaced t (address_in addr) (motion_in t.order (motion_of tile))
  pub plain : status ≡ ok → tile ≡ tile_as addr.kind (motion_of tile) 0
  pub turn_below : status ≡ ok → tile.turn < (points_of t.order).order
  pub in_order : status ≡ ok → IsOf t.order (motion_of tile).shift
  pub within : status ≡ ok → first_refused t (address_in addr).digits ≡ None
  -- each refusal comes only for its cause
  pub names_none : (status ≡ bad_address) ↔ (¬ NamesTile t addr)
  pub too_far : status ≡ coord_limit → IsSome (first_refused t (address_in addr).digits)
  pub statuses : (status ≡ ok) ⊎ (status ≡ bad_address) ⊎ (status ≡ coord_limit)

-- in an array: the same by the tile's own status, and all other numbers of a refused one are 0
pub record ShowsPlaceInArray (t : Tiling) (addr : PlainAddress) (tile : PlainTile) : Type 0 where
  pub shown : ShowsPlace t addr tile tile.status
  pub refused : ¬ tile.status ≡ ok → tile ≡ refused_as tile.status

-- what a call shows of an array of addresses: the place of each tile, or that there is other room
pub record ShowsPlaces (t : Tiling) (addrs : List PlainAddress) (tiles new_tiles : List PlainTile)
    (status : ℕ) : Type 0 where
  pub each : status ≡ ok → (i : ℕ) → i < length addrs
      → ShowsPlaceInArray t (plain_address_at addrs i) (plain_tile_at new_tiles i)
  pub not_asked : (status ≡ bad_words) ↔ (¬ length addrs ≡ length tiles)
  pub statuses : (status ≡ ok) ⊎ (status ≡ bad_words)
