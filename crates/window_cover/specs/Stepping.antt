-- One step of the search for the tiles of a window.
use Rattle.std.specs.Prelude.{◌≡◌, ℕ, suc, List, [], ◌∷◌, ◌++◌, length, Some, slice_get}
use Rattle.cyclo_points.specs.Order.{points_of}
use Rattle.rule_model.specs.Tiling.{Tiling}
use Rattle.theory_walks.specs.Boundary.{IsBoundaryEdge}
use Rattle.theory_walks.specs.Frames.{FrameValue, lifted_at}
use Rattle.theory_windows.specs.PatchWindow.{LiesAcross}
use Rattle.window_cover.specs.declared.open_edge.OpenEdge.{OpenEdge}
use Rattle.window_cover.specs.Found.{Found, address_found, BorderEdge, CoverValue, first_of}
use Rattle.window_cover.specs.Right.{IsRight, growing, name_of, line_at}
use Rattle.window_cover.specs.Windows.{TileOf}

-- one more tile is found: the one across the first open edge
pub record StepsTo (t : Tiling) (f : FrameValue) (c d : CoverValue) : Type 0 where
  pub same_window : d.window ≡ c.window
  pub first : BorderEdge
  pub rest : List BorderEdge
  pub is_first : c.border ≡ first ∷ rest
  pub tile : Found
  pub one_more : d.found ≡ c.found ++ tile ∷ []
  pub across : LiesAcross (points_of t.order).real (TileOf t) (growing t f) (line_at t first)
      (name_of t f tile)

-- a step was made from c to d, which is right for the frame, which was f and is g
pub record HasStepped (t : Tiling) (f g : FrameValue) (c d : CoverValue) : Type 0 where
  pub steps_to : StepsTo t f c d
  pub right : IsRight t g d
  pub one_more : length d.found ≡ suc (length c.found)

-- in the frame of depth n the first open edge is on the boundary of the frame's supertile
pub record IsFirstOnBoundary (t : Tiling) (f : FrameValue) (c : CoverValue) (n : ℕ) : Type 0 where
  pub first : OpenEdge
  pub is_first : first_of c.border ≡ Some first
  pub tile : Found
  pub its_tile : slice_get c.found first.tile ≡ Some tile
  pub on_boundary : IsBoundaryEdge t (lifted_at t f (address_found tile) n) first.edge
