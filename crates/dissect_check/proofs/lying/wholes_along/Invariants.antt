use Rattle.std.proofs.Common.{◌≡◌, map, take}
use Rattle.theory_edge_to_edge.specs.Lying.{numbers_along}
use Rattle.cyclo_points.specs.Order.{points_of}
use Rattle.dissect_check.specs.Few.{few_of}
use Rattle.dissect_check.specs.Views.{line_in}
use Rattle.dissect_check.proofs.lying.wholes_along.Given as goal

abbrev pub invariant-loop-number : goal.invariant-loop-number
invariant-loop-number l = l.found ≡ few_of (numbers_along (points_of l.order) 0
    (map (line_in l.order) (take l.number l.wholes)) (line_in l.order l.edge))
