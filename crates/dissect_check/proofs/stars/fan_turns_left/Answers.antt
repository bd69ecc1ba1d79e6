use Rattle.std.proofs.Common.{arith, ◌-◌, sym, ap, ◌∙◌, length}
use Rattle.theory_plane.specs.Triangle.{turns_left}
use Rattle.theory_substitution.specs.RuleParts.{vertices_of}
use Rattle.theory_edge_to_edge.specs.Star.{fan_triangle}
use Rattle.cyclo_points.specs.Order.{points_of}
use Rattle.plane_geom.specs.Spots.{reals_of}
use Rattle.rule_model.specs.Views.{rule_of}
use Rattle.theory_addresses.proofs.BoolLoops.{all_below-stop, all_below-more}
use Rattle.dissect_check.proofs.stars.fan_turns_left.Goals as goal

pub returns-then-not-turns_left : goal.returns-then-not-turns_left
returns-then-not-turns_left c =
    let o = c.args.rule.now.order in
    let vs = vertices_of (rule_of c.args.rule.now) c.args.kind in
    all_below-stop (λ i. turns_left (reals_of o) (fan_triangle (points_of o) vs i)) c.loop-i.i (length vs - 2)
    (ap (turns_left (reals_of o)) (sym c.fan_triangle.ensures.places) ∙ sym c.turns_left.ensures
    ∙ c.if-not-turns_left.true) (omega (arith, c.corner_count-i-end.ensures.value))

pub loop-i-preserved : goal.loop-i-preserved
loop-i-preserved c =
    let o = c.args.rule.now.order in
    let vs = vertices_of (rule_of c.args.rule.now) c.args.kind in
    all_below-more (λ i. turns_left (reals_of o) (fan_triangle (points_of o) vs i)) c.loop-i.i c.loop-i.invariant
    (ap (turns_left (reals_of o)) (sym c.fan_triangle.ensures.places) ∙ sym c.turns_left.ensures ∙ c.if-not-turns_left.false)
