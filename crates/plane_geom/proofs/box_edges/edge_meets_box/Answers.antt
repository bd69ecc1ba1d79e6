use Rattle.cyclo_points.specs.Order.{points_of}
use Rattle.theory_plane.proofs.BoxMeets.{exact-by_offsets}
use Rattle.plane_geom.proofs.box_edges.edge_meets_box.Goals as goal

pub returns : goal.returns
returns c =
    let o = c.args.order in
    let w = c.points_law.ensures in
    record {
      exact = exact-by_offsets (points_of o).real w.of_real w.of_order c.divisors_law.ensures _ _ _ _ _ _ _
          c.x_gap-start_x.ensures.value c.x_gap-end_x.ensures.value c.y_gap-start_y.ensures.value c.y_gap-end_y.ensures.value
          _ _ _ _ c.below-below_x.ensures.depths c.above-above_x.ensures.depths c.below-below_y.ensures.depths c.above-above_y.ensures.depths
          c.meets_four.result c.meets_four.ensures;
    }
