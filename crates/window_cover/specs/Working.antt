-- The state of the search as the program keeps it, with the ends of open edges in words.
use Rattle.std.specs.Prelude.{◌≤◌, ◌^◌, ◌≡◌, List, map, length}
use Rattle.std.specs.List.{AllByRecursion, AllZip}
use Rattle.theory_substitution.specs.Plane.{plane_point}
use Rattle.cyclo_points.specs.declared.point.Point.{Point}
use Rattle.cyclo_points.specs.Order.{points_of}
use Rattle.cyclo_points.specs.Point.{point_in, IsOf, IsWithin}
use Rattle.plane_geom.specs.declared.window.Window.{Window}
use Rattle.rule_model.specs.Tiling.{Tiling}
use Rattle.theory_walks.specs.Frames.{FrameValue, IsFrameOf}
use Rattle.theory_windows.specs.Limits.{most_tiles}
use Rattle.theory_windows.specs.OpenEdges.{NumberedEdge}
use Rattle.theory_windows.specs.OpenTest.{open_edges_of}
use Rattle.theory_windows.specs.SearchState.{SearchState, outlines, IsRightState}
use Rattle.window_cover.specs.Border.{Waiting}
use Rattle.window_cover.specs.Found.{Found, CoverValue}
use Rattle.window_cover.specs.Packed.{ends_of, packed}
use Rattle.window_cover.specs.Right.{growing, name_of, IsFound}
use Rattle.window_cover.specs.Windows.{TileOf, IsWindow, box_of}

-- the window, the tiles in the order found, and the open edges by tile and then edge, with their ends in
-- words
pub record Working : Type 0 where
  pub window : Window
  pub found : List Found
  pub border : List Waiting

abbrev pub working : CoverValue → Working
working c = record { window = c.window; found = c.found; border = map packed c.border }

-- the state of the search: the tiles found, and those of their edges that pass the test of open edges
abbrev pub state_of : (t : Tiling) → FrameValue → Working → SearchState (points_of t.order).real (TileOf t)
state_of t f c =
    let names = map (name_of t f) c.found in
    record {
      found = names;
      open_edges = open_edges_of (points_of t.order).real (box_of t c.window)
          (outlines (points_of t.order).real (TileOf t) (growing t f) names);
      depth = length f.digits;
    }

-- the open edge is this one, and has its ends
pub record IsEdgeWaiting (t : Tiling) (o : Waiting) (n : NumberedEdge (points_of t.order).real) : Type 0 where
  pub same_tile : o.edge.tile ≡ n.tile
  pub same_edge : o.edge.edge ≡ n.edge
  pub from : Point
  pub to : Point
  pub from_within : IsWithin (2 ^ 25) from
  pub to_within : IsWithin (2 ^ 25) to
  pub from_in_order : IsOf t.order from
  pub to_in_order : IsOf t.order to
  pub its_ends : o.ends ≡ ends_of from to
  pub starts : plane_point (points_of t.order) (point_in t.order from) ≡ n.line.from
  pub ends_there : plane_point (points_of t.order) (point_in t.order to) ≡ n.line.to

-- the state is right, and the edges kept are the open ones
pub record IsWorking (t : Tiling) (f : FrameValue) (c : Working) : Type 0 where
  pub frame : IsFrameOf t f
  pub window : IsWindow c.window
  pub found : AllByRecursion (IsFound t f) c.found
  pub not_too_many : length c.found ≤ most_tiles
  pub state : IsRightState (points_of t.order).real (TileOf t) (growing t f) (box_of t c.window)
      (state_of t f c)
  pub border : AllZip (IsEdgeWaiting t) c.border (state_of t f c).open_edges
