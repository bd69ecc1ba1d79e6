-- Why the tiles of a window are refused.
use Rattle.std.specs.Prelude.{◌≡◌, ◌⊎◌, ℕ, suc, ◌<◌, true, false, Some, List, length}
use Rattle.std.specs.List.{AllByRecursion}
use Rattle.theory_substitution.specs.RuleParts.{edge_count}
use Rattle.cyclo_points.specs.declared.point.Point.{Point}
use Rattle.cyclo_points.specs.Order.{points_of, is_refused}
use Rattle.cyclo_points.specs.Point.{point_in, IsOf}
use Rattle.plane_geom.specs.declared.window.Window.{Window}
use Rattle.rule_model.specs.Tiling.{Tiling}
use Rattle.tile_shape.specs.declared.address.Address.{Address}
use Rattle.tile_shape.specs.Views.{address_of}
use Rattle.theory_walks.specs.Boundary.{IsBoundaryEdge}
use Rattle.theory_walks.specs.Containing.{first_refused_outward}
use Rattle.theory_walks.specs.Frames.{FrameValue}
use Rattle.theory_windows.specs.Distinct.{AreDistinct}
use Rattle.theory_windows.specs.FramePatch.{line_of}
use Rattle.theory_windows.specs.Outlines.{MeetsBox}
use Rattle.window_cover.specs.declared.cover_fault.CoverFault.{CoverFault}
use Rattle.window_cover.specs.declared.cover_fault.CoverFault.TheVariants.{DepthLimit, CoordLimit, TooManyTiles, NoMemory}
use Rattle.window_cover.specs.Windows.{TileOf, box_of, MeetsWindow, IsOfFrame}
use Rattle.theory_windows.specs.Limits.{most_tiles}

-- the frame is at depth 64; the tile meets the window; and so does this edge of it, which is on the boundary
-- of the frame's supertile
pub record IsCoverDepthLimit (t : Tiling) (f : FrameValue) (w : Window) (addr : Address)
    (edge : ℕ) : Type 0 where
  pub at_64 : length f.digits ≡ 64
  pub tile : TileOf t
  pub its_address : tile.address ≡ address_of addr
  pub of_frame : IsOfFrame t f tile
  pub tile_meets : MeetsWindow t w tile
  pub edge_exists : edge < edge_count t.rule tile.address.kind
  pub edge_meets : MeetsBox (points_of t.order).real (box_of t w)
      (line_of (points_of t.order) t.rule tile edge)
  pub on_boundary : IsBoundaryEdge t tile.address edge

-- the first refused value on the way to the centre, as a point of its order
pub record IsFirstRefused (t : Tiling) (f : FrameValue) (w : Window) (value : Point) : Type 0 where
  pub is_first : first_refused_outward t f (point_in t.order w.centre) ≡ Some (point_in t.order value)
  pub value_in_order : IsOf t.order value

-- a tile of the frame that meets the window has this refused shift, as a point of its order
pub record IsRefusedShift (t : Tiling) (f : FrameValue) (w : Window) (value : Point) : Type 0 where
  pub tile : TileOf t
  pub of_frame : IsOfFrame t f tile
  pub tile_meets : MeetsWindow t w tile
  pub its_shift : tile.motion.shift ≡ point_in t.order value
  pub value_in_order : IsOf t.order value
  pub is_refused : is_refused t.order tile.motion.shift ≡ true

-- one tile more than the limit is of the frame and meets the window, and none of these tiles has a refused
-- shift
pub record AreTooMany (t : Tiling) (f : FrameValue) (w : Window) : Type 0 where
  pub tiles : List (TileOf t)
  pub count : length tiles ≡ suc most_tiles
  pub distinct : AreDistinct tiles
  pub of_frame : AllByRecursion (λ x. IsOfFrame t f x × MeetsWindow t w x) tiles
  pub none_refused : AllByRecursion (λ (x : TileOf t). is_refused t.order x.motion.shift ≡ false) tiles

-- the cause of each fault; the frame was f, and is g
abbrev pub HasCoverCause : Tiling → FrameValue → FrameValue → Window → CoverFault → Type 0
HasCoverCause t f g w (DepthLimit addr edge) = IsCoverDepthLimit t g w addr edge
HasCoverCause t f g w (CoordLimit value) = IsFirstRefused t f w value ⊎ IsRefusedShift t g w value
HasCoverCause t f g w TooManyTiles = AreTooMany t g w
HasCoverCause t f g w NoMemory = Unit {0}
