-- What is found of the other half of a given tile.
use Rattle.std.specs.Prelude.{◌≡◌, ℕ, ◌<◌, ◌^◌, List, [], length, get_or, Option, None, Some}
use Rattle.std.specs.List.{Contains}
use Rattle.theory_substitution.specs.Motion.{followed}
use Rattle.cyclo_points.specs.declared.motion.Motion.{Motion}
use Rattle.cyclo_points.specs.declared.order.Order.{Order}
use Rattle.cyclo_points.specs.Motion.{motion_in}
use Rattle.cyclo_points.specs.Order.{points_of}
use Rattle.cyclo_points.specs.Point.{IsWithin}
use Rattle.theory_frames.specs.Frame.{lifted_in}
use Rattle.rule_model.specs.Glue.{IsOnlyGlueEdge}
use Rattle.rule_model.specs.Tiling.{Tiling}
use Rattle.tile_place.specs.Keys.{key_of}
use Rattle.tile_place.specs.declared.order_key.OrderKey.{OrderKey}
use Rattle.tile_place.specs.declared.placed_tile.PlacedTile.{PlacedTile}
use Rattle.tile_shape.specs.Views.{address_of}
use Rattle.window_cover.specs.Numbered.{IsPlacedAt}
use Rattle.theory_walks.specs.Ancestors.{full}
use Rattle.theory_walks.specs.Frames.{FrameValue, whole}
use Rattle.theory_walks.specs.Paths.{Crosses}
use Rattle.half_glue.specs.declared.glue_side.OtherSide.{OtherSide}
use Rattle.half_glue.specs.declared.half.Found.{Found}
use Rattle.half_glue.specs.declared.half.Found.TheVariants.{Alone, Given, Crossed}
use Rattle.half_glue.specs.Depth.{IsGluedInside}
use Rattle.half_glue.specs.Given.{IsGiven}
use Rattle.half_glue.specs.Limits.{CanBeJoined}
use Rattle.half_glue.specs.WholeTiles.{HasNoGlueEdge}

-- a value for a number that no tile has
abbrev pub no_tile : PlacedTile
no_tile = record {
  kind = 0;
  motion = record { turn = 0; shift = record { c = [] } };
  addr = record { kind = 0; digits = record { items = [] } };
}

-- the tile with this number
abbrev pub given_tile : List PlacedTile → ℕ → PlacedTile
given_tile tiles n = get_or tiles n no_tile

-- the motion is the one that glues, followed by the half's own, and is not refused
pub record IsBeside (o : Order) (s : OtherSide) (own m : Motion) : Type 0 where
  pub followed_by : motion_in o m ≡ followed (points_of o) (motion_in o s.glue) (motion_in o own)
  pub within : IsWithin (2 ^ 24) m.shift
  pub turn_below : m.turn < (points_of o).order

-- the key with this number is that of a tile of the other kind, in the other half's place
abbrev pub KeyStandsBeside : Order → Option OtherSide → Motion → List OrderKey → ℕ → Type 0
KeyStandsBeside o None own keys n = ⊥
KeyStandsBeside o (Some s) own keys n = (m : Motion) × IsBeside o s own m × Contains keys (key_of m s.kind n)

-- the tile with this number is of the other kind, in the other half's place
abbrev pub StandsAmong : Order → Option OtherSide → Motion → List PlacedTile → ℕ → Type 0
StandsAmong o None own tiles n = ⊥
StandsAmong o (Some s) own tiles n = (m : Motion) × IsBeside o s own m × IsPlacedAt tiles m s.kind n

-- each of two tiles of the frame is the only one across the only glue edge of the other, and they are of two
-- kinds
pub record AreGlued (t : Tiling) (f : FrameValue) (x y : PlacedTile) : Type 0 where
  pub edge : ℕ
  pub its_edge : ℕ
  pub glue_edge : IsOnlyGlueEdge t.rule x.kind edge
  pub its_glue_edge : IsOnlyGlueEdge t.rule y.kind its_edge
  pub across : Crosses t (lifted_in (whole f) (address_of x.addr)) edge
      (lifted_in (whole f) (address_of y.addr)) its_edge
  pub back : Crosses t (lifted_in (whole f) (address_of y.addr)) its_edge
      (lifted_in (whole f) (address_of x.addr)) edge
  pub other_kind : ¬ y.kind ≡ x.kind

-- y is a tile of the frame, and the other half of x
abbrev pub IsOtherHalf : Tiling → FrameValue → PlacedTile → PlacedTile → Type 0
IsOtherHalf t f x y = IsGiven t f y × AreGlued t f x y

-- what is found of the tile x: that it has no glue edge, or its other half
abbrev pub IsHalfFound : Tiling → FrameValue → List PlacedTile → PlacedTile → Found → Type 0
IsHalfFound t f tiles x Alone = HasNoGlueEdge t x.kind
IsHalfFound t f tiles x (Given n) = (n < length tiles) × AreGlued t f x (given_tile tiles n)
IsHalfFound t f tiles x (Crossed y) = IsOtherHalf t f x y

-- what is found of the tile x is right for the frame, which was f and is g; its glue edge is inside there,
-- and it can be joined
pub record IsJoined (t : Tiling) (f g : FrameValue) (tiles : List PlacedTile) (x : PlacedTile)
    (half : Found) : Type 0 where
  pub found : IsHalfFound t g tiles x half
  pub inside : IsGluedInside t f (length g.digits) x
  pub can_be_joined : CanBeJoined t (full t f) x

-- a number that is found is that of a tile
abbrev pub IsNumberOfGiven : List PlacedTile → Found → Type 0
IsNumberOfGiven tiles Alone = Unit {0}
IsNumberOfGiven tiles (Given n) = n < length tiles
IsNumberOfGiven tiles (Crossed y) = Unit {0}
