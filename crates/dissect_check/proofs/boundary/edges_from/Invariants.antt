use Rattle.std.proofs.Common.{◌≡◌, take, All}
use Rattle.std.specs.List.{filter}
use Rattle.cyclo_points.specs.Order.{points_of}
use Rattle.cyclo_points.specs.Point.{point_in, IsOf}
use Rattle.rule_model.specs.declared.rule.Rule.{Rule}
use Rattle.dissect_check.specs.Few.{few_of}
use Rattle.dissect_check.specs.Views.{IsFit}
use Rattle.dissect_check.proofs.boundary.edges_from.Given as goal

abbrev pub invariant-loop-edge : goal.invariant-loop-edge
invariant-loop-edge l = (r : Rule) → All (IsFit r) l.edges → IsOf r.order l.p
    → l.found ≡ few_of (filter (λ s. (points_of r.order).same (point_in r.order s.line.from) (point_in r.order l.p)) (take l.edge-index l.edges))
