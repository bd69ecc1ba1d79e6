use Rattle.std.proofs.Common.{◌≡◌, ◌+◌, ◌≤◌, ◌++◌, length}
use Rattle.window_cover.specs.NewEdges.{left_open, opened}
use Rattle.window_cover.proofs.new_edges.meet_edges.Given as goal

abbrev pub invariant-loop-edge : goal.invariant-loop-edge
invariant-loop-edge l = record {
  met : l.border ≡ left_open l.corners l.edge l.fn.border ++ opened l.order l.window l.tile l.corners l.edge l.fn.border;
  few : length l.border ≤ length l.fn.border + l.edge;
}
