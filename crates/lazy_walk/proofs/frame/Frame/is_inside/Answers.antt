use Rattle.std.proofs.Common.{find, sym, ap, ◌∙◌}
use Rattle.cyclo_points.specs.Order.{is_refused}
use Rattle.rule_model.specs.declared.rule.Rule.{Rule}
use Rattle.rule_model.specs.Views.{rule_of}
use Rattle.tile_place.proofs.Parts.{holds_is}
use Rattle.tile_place.proofs.Visits.{visits-refused}
use Rattle.theory_walks.proofs.Ancestors.{same_outline}
use Rattle.lazy_walk.proofs.frame.Frame.is_inside.Goals as goal

pub returns-clause-holds : goal.returns-clause-holds
returns-clause-holds c =
    let m = c.args.machine.now in
    sym (holds_is c.order-order.result m.order
    (c.order-order.ensures.order ∙ ap (λ (r : Rule). r.order) c.checked.ensures.rule)
    c.in_ok-corners.corners.items c.as_slice.result.now _ c.args.point.now c.member.result
    c.as_slice.ensures.value
    (c.in_ok-corners.ensures.vertices ∙ same_outline m.order (rule_of m) _ _ _ _ _ _
    c.kind_of-kind.ensures.kind c.requires.ancestor.is_ancestor.power_is c.requires.ancestor.is_ancestor.motion_is)
    c.member.ensures)

pub returns-clause-visits : goal.returns-clause-visits
returns-clause-visits c =
    let m = c.args.machine.now in
    record {
      none_refused = ap (find (is_refused m.order)) (sym (same_outline m.order (rule_of m) _ _ _ _ _ _
          c.kind_of-kind.ensures.kind c.requires.ancestor.is_ancestor.power_is c.requires.ancestor.is_ancestor.motion_is))
          ∙ c.in_ok-corners.ensures.none_refused;
      limit = tt;
    }

pub returns-in_err-corners-clause-visits : goal.returns-in_err-corners-clause-visits
returns-in_err-corners-clause-visits c =
    let m = c.args.machine.now in
    visits-refused m.order _ c.from_residual.result c.in_err-corners.field-0.0 c.from_residual.ensures.1
    (record {
      first = ap (find (is_refused m.order)) (sym (same_outline m.order (rule_of m) _ _ _ _ _ _
          c.kind_of-kind.ensures.kind c.requires.ancestor.is_ancestor.power_is c.requires.ancestor.is_ancestor.motion_is))
          ∙ c.in_err-corners.ensures.limit;
      in_order = c.in_err-corners.ensures.limit_in_order;
    })
