use Rattle.std.proofs.Common.{sym, ◌∙◌}
use Rattle.plane_geom.specs.Spots.{spot_of}
use Rattle.window_cover.specs.NewEdges.{meets_window}
use Rattle.window_cover.proofs.BoxTests.{meets_window-is}
use Rattle.window_cover.proofs.new_edges.meets.Goals as goal

pub returns-then-is_inside : goal.returns-then-is_inside
unfolding meets_window
returns-then-is_inside c = c.if-is_inside.true ∙ sym (c.is_inside.ensures c.if-is_inside.true (spot_of c.args.order c.args.end.now))

pub returns-else-is_inside : goal.returns-else-is_inside
returns-else-is_inside c =
    meets_window-is c.args.order c.points_law.ensures c.divisors_law.ensures c.args.window.now c.args.start.now c.args.end.now c.edge_meets_box.result
    c.edge_meets_box.ensures.exact
