use Rattle.std.proofs.Common.{◌+◌, ◌-◌, ◌/◌, ◌%◌, ◌<◌, ◌∙◌, sym, ap, subst, arith, rules}
use Rattle.cyclo_points.specs.Order.{PointsLaw, points_of}
use Rattle.theory_dissection.specs.Glue.{TurnsOnto}
use Rattle.rule_model.specs.declared.rule.Rule.{Rule}
use Rattle.rule_model.specs.Views.{rule_of}
use Rattle.tile_place.proofs.Gluing.{one_vector, turn_below, turns_onto}
use Rattle.tile_place.proofs.machine.Machine.glue_turn.Goals as goal

pub returns-clause-below : goal.returns-clause-below
returns-clause-below c =
    let m = c.args.self.now in
    let same = c.order-order.ensures.order ∙ ap (λ (r : Rule). r.order) c.checked.ensures.rule in
    let n = c.n-n.ensures ∙ ap (λ o. (points_of o).order) same in
    let a = c.edge_turn.result in
    let b = c.edge_turn-2.result in
    subst (λ i. (b + (i / 2 + i - a)) % i < (points_of m.order).order) (sym n)
    (turn_below m (subst PointsLaw same c.points_law.ensures) c.args.kind c.args.edge c.args.other
    c.args.other_edge a b c.edge_turn.ensures c.edge_turn-2.ensures)

pub returns-clause-turns : goal.returns-clause-turns
returns-clause-turns c =
    let m = c.args.self.now in
    let same = c.order-order.ensures.order ∙ ap (λ (r : Rule). r.order) c.checked.ensures.rule in
    let n = c.n-n.ensures ∙ ap (λ o. (points_of o).order) same in
    let law = subst PointsLaw same c.points_law.ensures in
    let k = c.args.kind in
    let e = c.args.edge in
    let l = c.args.other in
    let f = c.args.other_edge in
    let a = c.edge_turn.result in
    let b = c.edge_turn-2.result in
    subst (λ i. TurnsOnto (points_of m.order) (rule_of m) k e l f ((b + (i / 2 + i - a)) % i)) (sym n)
    (turns_onto m law k e l f a b c.edge_turn.ensures c.edge_turn-2.ensures
    (one_vector m law k e l f a b c.edge_turn.ensures c.edge_turn-2.ensures c.requires.meets))

pub checked-requires : goal.checked-requires
checked-requires c = grind arith

pub overflow_sub-back : goal.overflow_sub-back
overflow_sub-back c = grind arith

pub overflow_add-result : goal.overflow_add-result
overflow_add-result c = search rules fits 100

pub nonzero_rem-result : goal.nonzero_rem-result
nonzero_rem-result c = grind arith
