use Rattle.std.proofs.Common.{◌≡◌, arith, ◌-◌, sym, ap₂, ◌∙◌, length, true, subst}
use Rattle.theory_plane.specs.Triangle.{separated}
use Rattle.theory_substitution.specs.RuleParts.{vertices_of}
use Rattle.theory_addresses.specs.Search.{all_below}
use Rattle.theory_edge_to_edge.specs.Star.{fan_triangle}
use Rattle.cyclo_points.specs.Order.{points_of}
use Rattle.plane_geom.specs.Spots.{reals_of}
use Rattle.rule_model.specs.Views.{rule_of}
use Rattle.theory_addresses.proofs.BoolLoops.{all_below-stop, all_below-more}
use Rattle.dissect_check.proofs.stars.fan_is_apart.Goals as goal

pub returns-then-not-separated : goal.returns-then-not-separated
returns-then-not-separated c =
    let o = c.args.rule.now.order in
    let vs = vertices_of (rule_of c.args.rule.now) c.args.kind in
    let triangle = fan_triangle (points_of o) vs in
    let j = c.loop-j.j in
    let apart = ap₂ (separated (reals_of o)) (sym c.fan_triangle.ensures.places)
    (sym c.fan_triangle-later.ensures.places) ∙ sym c.separated.ensures ∙ c.if-not-separated.true in
    all_below-stop (λ n. all_below n (λ m. separated (reals_of o) (triangle m) (triangle n))) j (length vs - 2)
    (sym (all_below-stop (λ m. separated (reals_of o) (triangle m) (triangle j)) c.loop-i.i j apart
    (omega arith))) (omega (arith, c.corner_count-j-end.ensures.value))

pub loop-i-preserved : goal.loop-i-preserved
loop-i-preserved c =
    let o = c.args.rule.now.order in
    let triangle = fan_triangle (points_of o) (vertices_of (rule_of c.args.rule.now) c.args.kind) in
    let apart = ap₂ (separated (reals_of o)) (sym c.fan_triangle.ensures.places)
    (sym c.fan_triangle-later.ensures.places) ∙ sym c.separated.ensures ∙ c.if-not-separated.false in
    all_below-more (λ m. separated (reals_of o) (triangle m) (triangle c.loop-j.j)) c.loop-i.i c.loop-i.invariant apart

pub loop-j-preserved : goal.loop-j-preserved
loop-j-preserved c =
    let o = c.args.rule.now.order in
    let triangle = fan_triangle (points_of o) (vertices_of (rule_of c.args.rule.now) c.args.kind) in
    let j = c.loop-j.j in
    all_below-more (λ n. all_below n (λ m. separated (reals_of o) (triangle m) (triangle n))) j c.loop-j.invariant
    (subst (λ n. all_below n (λ m. separated (reals_of o) (triangle m) (triangle j)) ≡ true) (omega arith) c.loop-i.invariant)
