use Rattle.std.proofs.Common.{◌^◌, ◌∙◌, ap, subst, lit≤}
use Rattle.cyclo_points.specs.Order.{PointsLaw}
use Rattle.cyclo_points.proofs.Within.{point_wider}
use Rattle.rule_model.specs.declared.rule.Rule.{Rule}
use Rattle.tile_place.proofs.TurnedPlaces.{vector-turned}
use Rattle.tile_place.proofs.machine.Machine.vector_of.Goals as goal

pub sub-requires-clause-p_within : goal.sub-requires-clause-p_within
sub-requires-clause-p_within c = point_wider (2 ^ 7) (2 ^ 40) _ (lit≤ tt) c.end_of-end.ensures.within

pub sub-requires-clause-q_within : goal.sub-requires-clause-q_within
sub-requires-clause-q_within c = point_wider (2 ^ 7) (2 ^ 40) _ (lit≤ tt) c.start_of-start.ensures.within

pub returns-clause-vector : goal.returns-clause-vector
returns-clause-vector c =
    let m = c.args.self.now in
    let law = subst PointsLaw (c.order.ensures.order ∙ ap (λ (r : Rule). r.order) c.checked.ensures.rule) c.points_law.ensures in
    vector-turned m law c.args.kind c.args.steps c.args.edge c.end_of-end.result c.start_of-start.result
    c.sub.result c.end_of-end.ensures c.start_of-start.ensures (c.sub.ensures.is_difference m.order)

pub returns-clause-in_order : goal.returns-clause-in_order
returns-clause-in_order c = c.sub.ensures.in_order c.args.self.now.order c.end_of-end.ensures.in_order c.start_of-start.ensures.in_order
