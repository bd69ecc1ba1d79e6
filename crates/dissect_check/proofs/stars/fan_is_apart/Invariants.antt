use Rattle.std.proofs.Common.{◌≡◌, true}
use Rattle.theory_plane.specs.Triangle.{separated}
use Rattle.theory_substitution.specs.RuleParts.{vertices_of}
use Rattle.theory_addresses.specs.Search.{all_below}
use Rattle.theory_edge_to_edge.specs.Star.{fan_triangle}
use Rattle.cyclo_points.specs.Order.{points_of}
use Rattle.plane_geom.specs.Spots.{reals_of}
use Rattle.rule_model.specs.Views.{rule_of}
use Rattle.dissect_check.proofs.stars.fan_is_apart.Given as goal

abbrev pub invariant-loop-j : goal.invariant-loop-j
invariant-loop-j l =
    let triangle = fan_triangle (points_of l.rule.order) (vertices_of (rule_of l.rule) l.kind) in
    all_below l.j (λ j. all_below j (λ i. separated (reals_of l.rule.order) (triangle i) (triangle j))) ≡ true

abbrev pub invariant-loop-i : goal.invariant-loop-i
invariant-loop-i l =
    let triangle = fan_triangle (points_of l.rule.order) (vertices_of (rule_of l.rule) l.kind) in
    all_below l.i (λ i. separated (reals_of l.rule.order) (triangle i) (triangle l.j)) ≡ true
