-- Corners of the program in the terms of the theory, and the vertex of the base around which they lie.
use Rattle.std.specs.Prelude.{ℕ, ◌<◌}
use Rattle.theory_plane.specs.Plane.{PlanePoint}
use Rattle.cyclo_points.specs.declared.order.Order.{Order}
use Rattle.cyclo_points.specs.Order.{NumberOf, points_of}
use Rattle.theory_substitution.specs.Plane.{plane_point}
use Rattle.theory_substitution.specs.RuleParts.{vertex}
use Rattle.theory_substitution.specs.Supertile.{Placed}
use Rattle.theory_windows.specs.FramePatch.{frame_patch}
use Rattle.rule_model.specs.Tiling.{Tiling}
use Rattle.tile_place.specs.Crossed.{edges_of}
use Rattle.tile_place.specs.Searched.{placed_in}
use Rattle.theory_walks.specs.Frames.{FrameValue, whole, IsFrameOf}
use Rattle.theory_stars.specs.Corners.{Corner as TheCorner, IsCornerAt}
use Rattle.star_walk.specs.declared.corner.Corner.{Corner}

-- a corner, of a tile by its address and its motion
abbrev pub CornerOf : Tiling → Type 0
CornerOf t = TheCorner (Placed (NumberOf t.order))

-- a corner of the program, in that form
abbrev pub corner_in : (o : Order) → Corner → TheCorner (Placed (NumberOf o))
corner_in o c = record { tile = placed_in o c.tile; vertex = c.vertex }

-- the frame is one of the tiling, and its base has vertex number i
pub record HasVertex (t : Tiling) (f : FrameValue) (i : ℕ) : Type 0 where
  pub frame : IsFrameOf t f
  pub exists : i < edges_of t f.base.kind

-- the position of vertex number i of the base
abbrev pub vertex_of_base : (t : Tiling) → FrameValue → ℕ → PlanePoint (points_of t.order).real.ops.carrier
vertex_of_base t f i = plane_point (points_of t.order) (vertex (points_of t.order) t.rule f.base.kind i)

-- the corner is of a tile of the frame, at the frame's own depth, and lies at vertex number i of the base
abbrev pub IsAtVertex : (t : Tiling) → FrameValue → ℕ → CornerOf t → Type 0
IsAtVertex t f i c =
    IsCornerAt (points_of t.order).real (Placed (NumberOf t.order))
    (frame_patch (points_of t.order) t.rule (whole f)) (vertex_of_base t f i) c
