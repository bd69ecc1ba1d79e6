-- The depth to which a frame grows so that tiles can be glued.
use Rattle.std.specs.Prelude.{ℕ, ◌<◌, ◌≤◌, List, All, length}
use Rattle.std.specs.List.{Contains}
use Rattle.rule_model.specs.Glue.{IsGlueEdge}
use Rattle.rule_model.specs.Tiling.{Tiling}
use Rattle.tile_place.specs.declared.placed_tile.PlacedTile.{PlacedTile}
use Rattle.tile_shape.specs.Views.{address_of}
use Rattle.theory_walks.specs.Boundary.{IsBoundaryEdge}
use Rattle.theory_walks.specs.Frames.{FrameValue, lifted_at}

-- at depth n the tile's glue edge, if it has one, is inside the frame's supertile
abbrev pub IsGluedInside : Tiling → FrameValue → ℕ → PlacedTile → Type 0
IsGluedInside t f n x = (e : ℕ) → IsGlueEdge t.rule x.kind e
    → ¬ IsBoundaryEdge t (lifted_at t f (address_of x.addr) n) e

-- one of these tiles has its glue edge on the boundary at depth n
pub record IsTooShallow (t : Tiling) (f : FrameValue) (tiles : List PlacedTile) (n : ℕ) : Type 0 where
  pub tile : PlacedTile
  pub edge : ℕ
  pub is_given : Contains tiles tile
  pub glue_edge : IsGlueEdge t.rule tile.kind edge
  pub on_boundary : IsBoundaryEdge t (lifted_at t f (address_of tile.addr) n) edge

-- n is the least depth, not below the frame's, at which the glue edges of all these tiles are inside
pub record IsLeastForGlue (t : Tiling) (f : FrameValue) (tiles : List PlacedTile) (n : ℕ) : Type 0 where
  pub inside : All (IsGluedInside t f n) tiles
  pub least : (k : ℕ) → length f.digits ≤ k → k < n → IsTooShallow t f tiles k
