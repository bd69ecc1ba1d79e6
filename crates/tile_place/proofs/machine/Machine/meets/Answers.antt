use Rattle.std.proofs.Common.{◌∙◌, sym, ap, subst}
use Rattle.cyclo_points.specs.Order.{PointsLaw}
use Rattle.rule_model.specs.declared.rule.Rule.{Rule}
use Rattle.tile_place.proofs.Gluing.{met}
use Rattle.tile_place.proofs.machine.Machine.meets.Goals as goal

pub returns : goal.returns
returns c =
    let m = c.args.self.now in
    let law = subst PointsLaw (c.order.ensures.order ∙ ap (λ (r : Rule). r.order) c.checked.ensures.rule) c.points_law.ensures in
    let own = c.vector_of-own.ensures in
    let its = c.vector_of-its.ensures in
    let same = c.is_same.ensures m.order own.in_order its.in_order in
    let one = met m law c.args.kind c.args.edge c.args.other c.args.other_edge c.edge_turn.result
    c.edge_turn-2.result c.edge_turn.ensures c.edge_turn-2.ensures in
    (λ h. one.0 (sym own.vector ∙ same.0 h ∙ its.vector), λ h. same.1 (own.vector ∙ one.1 h ∙ sym its.vector))
