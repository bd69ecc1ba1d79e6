use Rattle.std.proofs.Common.{◌≡◌, ◌^◌, drop}
use Rattle.std.specs.List.{list_any}
use Rattle.theory_plane.specs.BoxTest.{box_test}
use Rattle.cyclo_points.specs.Point.{IsWithin}
use Rattle.plane_geom.specs.Spots.{reals_of, spot_of, spots_of}
use Rattle.theory_windows.specs.Outlines.{edges_from, edges}
use Rattle.window_descent.specs.Standing.{window_box}
use Rattle.window_descent.proofs.meeting.some_edge_meets.Given as goal

abbrev pub invariant-loop-i : goal.invariant-loop-i
invariant-loop-i l = record {
  left : list_any (λ e. box_test (reals_of l.order) e.from e.to (window_box l.order l.window))
      (edges_from (spot_of l.order l.first) (spot_of l.order l.from) (spots_of l.order (drop l.i l.corners)))
      ≡ list_any (λ e. box_test (reals_of l.order) e.from e.to (window_box l.order l.window)) (edges (spots_of l.order l.corners));
  from_within : IsWithin (2 ^ 25) l.from;
}
