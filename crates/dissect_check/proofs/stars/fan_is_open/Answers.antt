use Rattle.std.proofs.Common.{◌-◌, ◌&&◌, Bool, not, length, sym, ap, ◌∙◌}
use Rattle.theory_plane.specs.Segment.{on_segment}
use Rattle.theory_substitution.specs.RuleParts.{vertices_of}
use Rattle.theory_edge_to_edge.specs.Star.{corner}
use Rattle.cyclo_points.specs.Order.{points_of}
use Rattle.plane_geom.specs.Spots.{reals_of}
use Rattle.rule_model.specs.Views.{rule_of}
use Rattle.dissect_check.proofs.stars.fan_is_open.Goals as goal

pub returns-then-not-on_segment : goal.returns-then-not-on_segment
returns-then-not-on_segment c =
    let o = c.args.rule.now.order in
    let vs = vertices_of (rule_of c.args.rule.now) c.args.kind in
    let last = sym (c.corner-last.ensures.place ∙ ap (λ n. corner (points_of o) vs (n - 1)) c.corner_count.ensures.value) in
    let first = sym c.corner-first.ensures.place in
    let second = sym c.corner-second.ensures.place in
    let second_off = (λ i. on_segment (reals_of o) (first i) (last i) (second i)) ∙ sym c.on_segment.ensures ∙ c.if-not-on_segment.true in
    let last_off = (λ i. on_segment (reals_of o) (first i) (second i) (last i)) ∙ sym c.on_segment-then-not-on_segment.ensures in
    sym (λ i. not (second_off i) && not (last_off i))

pub returns-else-not-on_segment : goal.returns-else-not-on_segment
returns-else-not-on_segment c =
    let o = c.args.rule.now.order in
    let vs = vertices_of (rule_of c.args.rule.now) c.args.kind in
    let last = sym (c.corner-last.ensures.place ∙ ap (λ n. corner (points_of o) vs (n - 1)) c.corner_count.ensures.value) in
    let first = sym c.corner-first.ensures.place in
    let second = sym c.corner-second.ensures.place in
    let second_on = (λ i. on_segment (reals_of o) (first i) (last i) (second i)) ∙ sym c.on_segment.ensures ∙ c.if-not-on_segment.false in
    let last_on = on_segment (reals_of o) (corner (points_of o) vs 0) (corner (points_of o) vs 1) (corner (points_of o) vs (length vs - 1)) in
    ap not c.if-not-on_segment.false ∙ sym (ap (λ (b : Bool). not b && not last_on) second_on)
