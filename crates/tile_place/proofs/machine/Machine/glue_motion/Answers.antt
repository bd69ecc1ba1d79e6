use Rattle.std.proofs.Common.{◌^◌, ◌∙◌, ap, subst, lit≤}
use Rattle.cyclo_points.specs.Order.{PointsLaw}
use Rattle.cyclo_points.specs.Point.{point_in}
use Rattle.cyclo_points.proofs.Within.{point_wider}
use Rattle.rule_model.specs.declared.rule.Rule.{Rule}
use Rattle.tile_place.proofs.GreatestTurns.{some_order}
use Rattle.tile_place.proofs.Gluing.{glued}
use Rattle.tile_place.proofs.machine.Machine.glue_motion.Goals as goal

pub end_of-end-requires : goal.end_of-end-requires
end_of-end-requires c = record {
  turned_edge = record { exists = c.requires.edge_exists; turn_below = some_order c.args.self.now.order };
}

pub sub-requires-clause-p_within : goal.sub-requires-clause-p_within
sub-requires-clause-p_within c = point_wider (2 ^ 7) (2 ^ 40) _ (lit≤ tt) c.end_of-end.ensures.within

pub sub-requires-clause-q_within : goal.sub-requires-clause-q_within
sub-requires-clause-q_within c = point_wider (2 ^ 7) (2 ^ 40) _ (lit≤ tt) c.start_of-start.ensures.within

pub returns-clause-glues : goal.returns-clause-glues
returns-clause-glues c =
    let m = c.args.self.now in
    let law = subst PointsLaw (c.order.ensures.order ∙ ap (λ (r : Rule). r.order) c.checked.ensures.rule) c.points_law.ensures in
    let end = c.end_of-end.result in
    let start = c.start_of-start.result in
    glued m law c.args.kind c.args.edge c.args.other c.args.other_edge c.glue_turn-turn.result
    c.glue_turn-turn.ensures.below c.glue_turn-turn.ensures.turns (point_in m.order end)
    (point_in m.order start)
    (point_in m.order c.sub.result) c.end_of-end.ensures.place c.start_of-start.ensures.place (c.sub.ensures.is_difference m.order)

pub returns-clause-shift_within : goal.returns-clause-shift_within
returns-clause-shift_within c = c.sub.ensures.bounded (2 ^ 7) (2 ^ 7) c.end_of-end.ensures.within c.start_of-start.ensures.within

pub returns-clause-in_order : goal.returns-clause-in_order
returns-clause-in_order c = c.sub.ensures.in_order c.args.self.now.order c.end_of-end.ensures.in_order c.start_of-start.ensures.in_order
