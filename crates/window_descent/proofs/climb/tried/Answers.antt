use Rattle.std.proofs.Common.{◌≡◌, List, sym, ap, ◌∙◌, arith}
use Rattle.theory_frames.specs.Frame.{at_level}
use Rattle.theory_addresses.specs.Address.{top_kind}
use Rattle.theory_substitution.specs.Motion.{Motion}
use Rattle.cyclo_points.specs.declared.point.Point.{Point}
use Rattle.cyclo_points.specs.Order.{NumberOf, points_of}
use Rattle.cyclo_points.specs.Motion.{motion_in}
use Rattle.plane_geom.specs.Spots.{reals_of, spots_of}
use Rattle.rule_model.specs.declared.rule.Rule.{Rule}
use Rattle.rule_model.specs.Tiling.{tiling_of}
use Rattle.rule_model.specs.Views.{rule_of}
use Rattle.theory_walks.specs.Ancestors.{full}
use Rattle.theory_descents.specs.Climb.{holds_window}
use Rattle.theory_descents.specs.Parts.{part_polygon}
use Rattle.window_descent.specs.Climbing.{holds_at}
use Rattle.window_descent.specs.Standing.{window_box}
use Rattle.window_descent.proofs.Placings.{spots-part}
use Rattle.window_descent.proofs.climb.tried.Goals as goal

pub returns-in-Ok : goal.returns-in-Ok
returns-in-Ok c =
    let m = c.args.machine.now in
    let P = points_of m.order in
    let o = c.order-order.result in
    let w = c.args.window.now in
    let a = c.args.ancestor.now in
    let same : o ≡ m.order = c.order-order.ensures.order ∙ ap (λ (r : Rule). r.order) c.checked.ensures.rule in
    let corners = c.in-Ok.corners.items in
    let polygon : spots_of m.order corners ≡ part_polygon P (rule_of m) c.kind_of-kind.result a.level (motion_in m.order a.motion) =
    spots-part m c.kind_of-kind.result a.level corners a.power (motion_in m.order a.motion) c.requires.ancestor.power_is c.in-Ok.ensures.vertices in
    let holds : c.holds.result ≡ holds_at (tiling_of m) (full (tiling_of m) c.args.frame.now) w a.level =
    c.holds.ensures ∙ ap (λ (ps : List Point). holds_window (reals_of o) (window_box o w) (spots_of o ps)) c.as_slice.ensures.value
    ∙ ap (λ q. holds_window (reals_of q) (window_box q w) (spots_of q corners)) same
    ∙ ap (holds_window (reals_of m.order) (window_box m.order w)) (polygon
    ∙ ap (λ k. part_polygon P (rule_of m) k a.level (motion_in m.order a.motion)) c.kind_of-kind.ensures.kind
    ∙ ap (λ (g : Motion (NumberOf m.order)). part_polygon P (rule_of m)
    (top_kind (at_level (full (tiling_of m) c.args.frame.now) a.level)) a.level g) c.requires.ancestor.motion_is) in
    record {
      found = λ p. ((omega arith), (sym holds ∙ p));
      not_found = λ p _. sym holds ∙ p;
    }
