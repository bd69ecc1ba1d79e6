use Rattle.std.proofs.Common.{◌≡◌, ◌<◌, length, map, sym, ap, ◌∙◌, subst}
use Rattle.std.proofs.lemmas.List.{length-map}
use Rattle.cyclo_points.specs.declared.order.Order.{Order}
use Rattle.cyclo_points.specs.Point.{point_in}
use Rattle.rule_model.specs.declared.rule.Rule.{Rule}
use Rattle.rule_model.specs.Views.{rule_of}
use Rattle.theory_substitution.specs.RuleParts.{vertices_of}
use Rattle.window_descent.specs.Inside.{IsWellInside}
use Rattle.window_descent.proofs.Placings.{placed-inside}
use Rattle.window_descent.proofs.placing.has_corner_inside.Goals as goal

pub returns-then-is_inside : goal.returns-then-is_inside
returns-then-is_inside c = λ _.
    let m = c.args.machine.now in
    let p = c.args.part.now in
    let same : c.order-order.result ≡ m.order = c.order-order.ensures.order ∙ ap (λ (r : Rule). r.order) c.checked-checked.ensures.rule in
    let vs = c.vertices-number-end.result.now in
    let read : map (point_in m.order) vs ≡ vertices_of (rule_of m) p.kind =
    subst (λ (r : Rule). map (point_in r.order) vs ≡ vertices_of (rule_of r) p.kind) c.checked-checked.ensures.rule
    c.vertices-number-end.ensures.numbers in
    let there : c.loop-number.number < length (vertices_of (rule_of m) p.kind) =
    subst (λ n. c.loop-number.number < n) (sym (length-map vs (point_in m.order)) ∙ ap length read) c.loop-number-test.true in
    placed-inside m c.args.window.now p c.loop-number.number c.corner-corner.result there c.corner-corner.ensures
    (subst (λ (o : Order). IsWellInside o c.args.window.now c.corner-corner.result) same (c.is_inside.ensures c.if-is_inside.true))
