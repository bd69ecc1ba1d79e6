-- Tiles that can be glued.
use Rattle.std.specs.Prelude.{◌≡◌, ℕ, false, List, All}
use Rattle.theory_addresses.specs.Address.{Address}
use Rattle.cyclo_points.specs.Order.{points_of, is_refused}
use Rattle.theory_frames.specs.Frame.{StandsInFrame, lifted_in}
use Rattle.rule_model.specs.Glue.{IsGlueEdge}
use Rattle.rule_model.specs.Tiling.{Tiling, MotionOf}
use Rattle.tile_place.specs.declared.placed_tile.PlacedTile.{PlacedTile}
use Rattle.tile_shape.specs.Views.{address_of}
use Rattle.theory_walks.specs.Ancestors.{full}
use Rattle.theory_walks.specs.Boundary.{IsBoundaryEdge}
use Rattle.theory_walks.specs.Frames.{FrameValue}
use Rattle.theory_walks.specs.Paths.{Crosses}

-- in the whole frame f the tile's glue edge, if it has one, is inside, and the tile across it has no refused
-- shift
pub record CanBeJoined (t : Tiling) (f : Address) (x : PlacedTile) : Type 0 where
  pub inside : (e : ℕ) → IsGlueEdge t.rule x.kind e → ¬ IsBoundaryEdge t (lifted_in f (address_of x.addr)) e
  pub unrefused : (e back : ℕ) (b : Address) (m : MotionOf t) → IsGlueEdge t.rule x.kind e
      → Crosses t (lifted_in f (address_of x.addr)) e b back
      → StandsInFrame (points_of t.order) t.rule f b m → is_refused t.order m.shift ≡ false

-- this holds for each of these tiles, at depth 64
abbrev pub CanBeGlued : Tiling → FrameValue → List PlacedTile → Type 0
CanBeGlued t f tiles = All (CanBeJoined t (full t f)) tiles
