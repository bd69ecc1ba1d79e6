-- Why tiles cannot be glued.
use Rattle.std.specs.Prelude.{◌≡◌, ℕ, true, List}
use Rattle.std.specs.List.{Contains}
use Rattle.theory_addresses.specs.Address as theory
use Rattle.cyclo_points.specs.declared.point.Point.{Point}
use Rattle.cyclo_points.specs.Order.{points_of, is_refused}
use Rattle.cyclo_points.specs.Point.{point_in, IsOf}
use Rattle.theory_frames.specs.Frame.{StandsInFrame, lifted_in}
use Rattle.rule_model.specs.Glue.{IsGlueEdge}
use Rattle.rule_model.specs.Tiling.{Tiling, MotionOf}
use Rattle.tile_place.specs.declared.placed_tile.PlacedTile.{PlacedTile}
use Rattle.tile_shape.specs.declared.address.Address.{Address}
use Rattle.tile_shape.specs.Views.{address_of}
use Rattle.theory_walks.specs.Boundary.{IsBoundaryEdge}
use Rattle.theory_walks.specs.Frames.{FrameValue, whole, lifted_at}
use Rattle.theory_walks.specs.Paths.{Crosses}
use Rattle.half_glue.specs.declared.glue_fault.GlueFault.{GlueFault}
use Rattle.half_glue.specs.declared.glue_fault.GlueFault.TheVariants.{DepthLimit, CoordLimit, NoMemory}

-- a given tile, lifted to depth 64, has this glue edge on the boundary
pub record IsGlueDepthLimit (t : Tiling) (f : FrameValue) (tiles : List PlacedTile) (addr : Address)
    (edge : ℕ) : Type 0 where
  pub tile : PlacedTile
  pub is_given : Contains tiles tile
  pub its_address : address_of addr ≡ lifted_at t f (address_of tile.addr) 64
  pub glue_edge : IsGlueEdge t.rule tile.kind edge
  pub on_boundary : IsBoundaryEdge t (lifted_at t f (address_of tile.addr) 64) edge

-- the tile across the glue edge of a given tile has this refused shift, a point of its order
pub record IsRefusedGlueShift (t : Tiling) (f : FrameValue) (tiles : List PlacedTile)
    (value : Point) : Type 0 where
  pub tile : PlacedTile
  pub is_given : Contains tiles tile
  pub edge : ℕ
  pub glue_edge : IsGlueEdge t.rule tile.kind edge
  pub other : theory.Address
  pub back : ℕ
  pub across : Crosses t (lifted_in (whole f) (address_of tile.addr)) edge other back
  pub motion : MotionOf t
  pub stands : StandsInFrame (points_of t.order) t.rule (whole f) other motion
  pub its_shift : motion.shift ≡ point_in t.order value
  pub value_in_order : IsOf t.order value
  pub is_refused : is_refused t.order motion.shift ≡ true

-- the cause of each fault; the frame was f, and is g
abbrev pub HasGlueCause : Tiling → FrameValue → FrameValue → List PlacedTile → GlueFault → Type 0
HasGlueCause t f g tiles (DepthLimit addr edge) = IsGlueDepthLimit t f tiles addr edge
HasGlueCause t f g tiles (CoordLimit value) = IsRefusedGlueShift t g tiles value
HasGlueCause t f g tiles NoMemory = Unit {0}
