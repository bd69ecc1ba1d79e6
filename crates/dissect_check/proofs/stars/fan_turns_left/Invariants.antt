use Rattle.std.proofs.Common.{◌≡◌, true}
use Rattle.theory_plane.specs.Triangle.{turns_left}
use Rattle.theory_substitution.specs.RuleParts.{vertices_of}
use Rattle.theory_addresses.specs.Search.{all_below}
use Rattle.theory_edge_to_edge.specs.Star.{fan_triangle}
use Rattle.cyclo_points.specs.Order.{points_of}
use Rattle.plane_geom.specs.Spots.{reals_of}
use Rattle.rule_model.specs.Views.{rule_of}
use Rattle.dissect_check.proofs.stars.fan_turns_left.Given as goal

abbrev pub invariant-loop-i : goal.invariant-loop-i
invariant-loop-i l = all_below l.i (λ i. turns_left (reals_of l.rule.order)
    (fan_triangle (points_of l.rule.order) (vertices_of (rule_of l.rule) l.kind) i)) ≡ true
