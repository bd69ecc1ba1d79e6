-- When the state of a search is right, for a tiling and a frame.
use Rattle.std.specs.Prelude.{◌≡◌, ◌<◌, ◌≤◌, ◌^◌, false, List, map, length, IsTrue}
use Rattle.std.specs.List.{AllByRecursion}
use Rattle.theory_plane.specs.Plane.{test_point}
use Rattle.theory_plane.specs.Crossing.{member}
use Rattle.cyclo_points.specs.Order.{points_of, is_refused}
use Rattle.cyclo_points.specs.Point.{point_in, IsOf, IsWithin}
use Rattle.cyclo_points.specs.Motion.{motion_in}
use Rattle.theory_frames.specs.Frame.{IsTileOf, lifted_in}
use Rattle.rule_model.specs.Tiling.{Tiling, children}
use Rattle.theory_walks.specs.Ancestors.{full}
use Rattle.theory_walks.specs.Frames.{FrameValue, whole, IsFrameOf}
use Rattle.theory_windows.specs.Distinct.{AreDistinct}
use Rattle.theory_windows.specs.FramePatch.{growing_frame, plane_edge}
use Rattle.theory_windows.specs.GrowingPatch.{GrowingPatch, IsOfDepth}
use Rattle.theory_windows.specs.Limits.{most_tiles}
use Rattle.theory_windows.specs.OpenEdges.{NumberedEdge, AreOpenEdges}
use Rattle.theory_windows.specs.Outlines.{PlaneEdge}
use Rattle.theory_windows.specs.SearchState.{IsFirst}
use Rattle.window_cover.specs.Found.{Found, address_found, BorderEdge, CoverValue}
use Rattle.window_cover.specs.Windows.{TileOf, box_of, polygon_of, IsWindow, MeetsWindow}

-- the tiles of the frame, as it grows to depth 64; growth does not change their names
abbrev pub growing : (t : Tiling) → FrameValue → GrowingPatch (points_of t.order).real (TileOf t)
growing t f = growing_frame (points_of t.order) (is_refused t.order) t.rule (full t f)

-- the tile found, by the address that it has at depth 64
abbrev pub name_of : (t : Tiling) → FrameValue → Found → TileOf t
name_of t f x = record {
  address = lifted_in (full t f) (address_found x);
  motion = motion_in t.order x.motion;
}

abbrev pub tiles_found : (t : Tiling) → FrameValue → CoverValue → List (TileOf t)
tiles_found t f c = map (name_of t f) c.found

-- the line of an open edge, and the edge with its numbers
abbrev pub line_at : (t : Tiling) → BorderEdge → PlaneEdge (points_of t.order).real
line_at t o = plane_edge (points_of t.order)
    (record { from = point_in t.order o.from; to = point_in t.order o.to })

abbrev pub numbered : (t : Tiling) → BorderEdge → NumberedEdge (points_of t.order).real
numbered t o = record { tile = o.edge.tile; edge = o.edge.edge; line = line_at t o }

-- its ends are points of the order, with coefficients of at most 2^25
pub record HasEnds (t : Tiling) (o : BorderEdge) : Type 0 where
  pub from_within : IsWithin (2 ^ 25) o.from
  pub to_within : IsWithin (2 ^ 25) o.to
  pub from_in_order : IsOf t.order o.from
  pub to_in_order : IsOf t.order o.to

-- a tile found is of the frame, at the depth that it had when it was found
pub record IsFound (t : Tiling) (f : FrameValue) (x : Found) : Type 0 where
  pub of_frame : IsTileOf (children t) (whole f) (address_found x)
  pub turn_below : x.motion.turn < (points_of t.order).order
  pub shift_within : IsWithin (2 ^ 24) x.motion.shift
  pub in_order : IsOf t.order x.motion.shift

-- The tiles found are distinct tiles of the frame, each in its place there, with no refused shift. Each meets
-- the window, and tile 0 holds its centre. The open edges are, by tile and then edge, exactly those of their
-- edges that meet the window and have no reverse among the edges of these tiles.
pub record IsRight (t : Tiling) (f : FrameValue) (c : CoverValue) : Type 0 where
  pub frame : IsFrameOf t f
  pub window : IsWindow c.window
  pub found : AllByRecursion (IsFound t f) c.found
  pub not_too_many : length c.found ≤ most_tiles
  pub of_frame : AllByRecursion
      (λ x. IsOfDepth (points_of t.order).real (TileOf t) (growing t f) (length f.digits) x)
      (tiles_found t f c)
  pub distinct : AreDistinct (tiles_found t f c)
  pub none_refused : AllByRecursion (λ (x : TileOf t). is_refused t.order x.motion.shift ≡ false)
      (tiles_found t f c)
  pub each_meets : AllByRecursion (MeetsWindow t c.window) (tiles_found t f c)
  pub holds_centre : (x : TileOf t) × IsFirst x (tiles_found t f c)
      × IsTrue (member (points_of t.order).real (polygon_of t x)
      (test_point (points_of t.order).real.ops (box_of t c.window).centre))
  pub ends : AllByRecursion (HasEnds t) c.border
  pub open_edges : AreOpenEdges (points_of t.order).real (box_of t c.window)
      (map (polygon_of t) (tiles_found t f c)) (map (numbered t) c.border)
