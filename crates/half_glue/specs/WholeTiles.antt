-- Whole tiles: tiles without a glue edge, and pairs of halves.
use Rattle.std.specs.Prelude.{◌≡◌, ◌⊎◌, ℕ, ◌<◌, List, All, Option, None, Some, slice_get, IfSome, IsTrue}
use Rattle.std.specs.Option.{is_some}
use Rattle.std.specs.List.{Contains}
use Rattle.theory_substitution.specs.Supertile.{Placed}
use Rattle.cyclo_points.specs.Order.{NumberOf}
use Rattle.rule_model.specs.Glue.{IsGlueEdge, IsOnlyGlueEdge}
use Rattle.rule_model.specs.Tiling.{Tiling}
use Rattle.tile_place.specs.declared.placed_tile.PlacedTile.{PlacedTile}
use Rattle.tile_place.specs.Searched.{placed_in}
use Rattle.tile_shape.specs.Views.{address_of}
use Rattle.theory_walks.specs.Frames.{FrameValue}
use Rattle.theory_walks.specs.Paths.{Crosses}
use Rattle.lazy_walk.specs.Standing.{Stands}
use Rattle.half_glue.specs.declared.whole_tile.WholeTile.{WholeTile}
use Rattle.half_glue.specs.Given.{lifted_tile}

-- a tile of this kind is not a half
abbrev pub HasNoGlueEdge : Tiling → ℕ → Type 0
HasNoGlueEdge t kind = (e : ℕ) → ¬ IsGlueEdge t.rule kind e

-- each tile is the only one across the only glue edge of the other, and a is of the lesser kind
pub record AreHalves (t : Tiling) (a b : PlacedTile) : Type 0 where
  pub edge : ℕ
  pub its_edge : ℕ
  pub glue_edge : IsOnlyGlueEdge t.rule a.kind edge
  pub its_glue_edge : IsOnlyGlueEdge t.rule b.kind its_edge
  pub across : Crosses t (address_of a.addr) edge (address_of b.addr) its_edge
  pub back : Crosses t (address_of b.addr) its_edge (address_of a.addr) edge
  pub lesser_first : a.kind < b.kind

abbrev pub IsWholeBy : Tiling → FrameValue → PlacedTile → Option PlacedTile → Type 0
IsWholeBy t f a None = Stands t f a × HasNoGlueEdge t a.kind
IsWholeBy t f a (Some b) = Stands t f a × Stands t f b × AreHalves t a b

-- A whole tile of the frame: a tile without a glue edge, or two halves. Each is in its place, at the frame's
-- depth.
abbrev pub IsWholeTile : Tiling → FrameValue → WholeTile → Type 0
IsWholeTile t f w = IsWholeBy t f w.first w.second

abbrev pub IsOneOf : (t : Tiling) → Placed (NumberOf t.order) → PlacedTile → Option PlacedTile → Type 0
IsOneOf t y a None = placed_in t.order a ≡ y
IsOneOf t y a (Some b) = (placed_in t.order a ≡ y) ⊎ (placed_in t.order b ≡ y)

-- the given tile, lifted to the frame's depth, is the whole tile or a half of it
abbrev pub IsPartOf : Tiling → FrameValue → WholeTile → PlacedTile → Type 0
IsPartOf t f w x = IsOneOf t (lifted_tile t f x) w.first w.second

-- The whole tiles of the given tiles. Each has a part among them, and each of them is a part of one.
pub record AreWholeTilesOf (t : Tiling) (f : FrameValue) (tiles : List PlacedTile)
    (wholes : List WholeTile) : Type 0 where
  pub whole : All (IsWholeTile t f) wholes
  pub of_given : All (λ w. (x : PlacedTile) × Contains tiles x × IsPartOf t f w x) wholes
  pub each_joined : All (λ x. (w : WholeTile) × Contains wholes w × IsPartOf t f w x) tiles

-- the whole tile at this place has a second half
abbrev pub HasSecond : List WholeTile → ℕ → Type 0
HasSecond wholes n = IfSome (slice_get wholes n) (λ w. IsTrue (is_some w.second))
