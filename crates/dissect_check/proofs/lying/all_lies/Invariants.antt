use Rattle.std.proofs.Common.{◌≡◌, map, take}
use Rattle.theory_edge_to_edge.specs.Lying.{lie_among}
use Rattle.cyclo_points.specs.Order.{points_of}
use Rattle.rule_model.specs.Views.{rule_of}
use Rattle.dissect_check.specs.Views.{line_in, edge_in, as_lie}
use Rattle.dissect_check.proofs.lying.all_lies.Given as goal

abbrev pub invariant-loop-s : goal.invariant-loop-s
invariant-loop-s l = map as_lie l.lies.items
    ≡ map (lie_among (points_of l.rule.order) (rule_of l.rule) (map (edge_in l.rule.order) l.edges)
    (map (line_in l.rule.order) l.wholes)) (map (edge_in l.rule.order) (take l.s-index l.edges))
