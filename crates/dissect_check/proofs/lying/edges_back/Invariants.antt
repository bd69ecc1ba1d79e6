use Rattle.std.proofs.Common.{◌≡◌, take, All}
use Rattle.std.specs.List.{filter}
use Rattle.theory_edge_to_edge.specs.Edges.{is_opposite}
use Rattle.cyclo_points.specs.Order.{points_of}
use Rattle.rule_model.specs.declared.rule.Rule.{Rule}
use Rattle.dissect_check.specs.Few.{few_of}
use Rattle.dissect_check.specs.Views.{edge_in, IsFit}
use Rattle.dissect_check.proofs.lying.edges_back.Given as goal

abbrev pub invariant-loop-t : goal.invariant-loop-t
invariant-loop-t l = (r : Rule) → All (IsFit r) l.edges → IsFit r l.s
    → l.found ≡ few_of (filter (λ t. is_opposite (points_of r.order) (edge_in r.order l.s) (edge_in r.order t)) (take l.t-index l.edges))
