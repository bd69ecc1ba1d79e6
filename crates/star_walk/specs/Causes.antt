-- Why a vertex has no star, and when it has one.
use Rattle.std.specs.Prelude.{◌≡◌, ℕ, suc, ◌≤◌, List, length}
use Rattle.cyclo_points.specs.Order.{points_of}
use Rattle.theory_substitution.specs.RuleParts.{edge_count}
use Rattle.rule_model.specs.Tiling.{Tiling}
use Rattle.tile_shape.specs.declared.address.Address.{Address}
use Rattle.tile_shape.specs.Views.{address_of}
use Rattle.theory_walks.specs.Ancestors.{full}
use Rattle.theory_walks.specs.Boundary.{IsBoundaryEdge}
use Rattle.theory_walks.specs.Frames.{FrameValue, whole}
use Rattle.theory_stars.specs.Corners.{edge_into}
use Rattle.theory_stars.specs.FrameStar.{AreAtVertex}
use Rattle.star_walk.specs.declared.star_fault.StarFault.{StarFault}
use Rattle.star_walk.specs.declared.star_fault.StarFault.TheVariants.{DepthLimit, TooBig}
use Rattle.star_walk.specs.Corners.{CornerOf, vertex_of_base, IsAtVertex}
use Rattle.star_walk.specs.Round.{IsEnoughForVertex}

-- the most tiles that a star may have
abbrev pub most_corners : ℕ
most_corners = 64

-- The frame is at depth 64. The tile has vertex i of the base as a vertex, and its edge that ends there is on
-- the boundary of the frame's supertile.
pub record IsStarDepthLimit (t : Tiling) (f : FrameValue) (i : ℕ) (addr : Address) (edge : ℕ) : Type 0 where
  pub at_64 : length f.digits ≡ 64
  pub corner : CornerOf t
  pub its_address : corner.tile.address ≡ address_of addr
  pub at_vertex : IsAtVertex t f i corner
  pub its_edge : edge ≡ edge_into (edge_count t.rule corner.tile.address.kind) corner.vertex
  pub on_boundary : IsBoundaryEdge t (address_of addr) edge

-- there are 65 distinct tiles of the frame that have vertex i of the base as a vertex
pub record AreTooManyAround (t : Tiling) (f : FrameValue) (i : ℕ) : Type 0 where
  pub corners : List (CornerOf t)
  pub count : length corners ≡ suc most_corners
  pub at_vertex : AreAtVertex (points_of t.order) t.rule (whole f) (vertex_of_base t f i) corners

-- the cause of each fault
abbrev pub HasStarCause : Tiling → FrameValue → ℕ → StarFault → Type 0
HasStarCause t f i (DepthLimit addr edge) = IsStarDepthLimit t f i addr edge
HasStarCause t f i TooBig = AreTooManyAround t f i

-- depth 64 is enough for vertex i of the base, and at most 64 tiles have it there
pub record IsStarWithinLimits (t : Tiling) (f : FrameValue) (i : ℕ) : Type 0 where
  pub enough : IsEnoughForVertex t f i 64
  pub few : (corners : List (CornerOf t))
      → AreAtVertex (points_of t.order) t.rule (full t f) (vertex_of_base t f i) corners
      → length corners ≤ most_corners
