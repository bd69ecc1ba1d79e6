use Rattle.std.specs.Cmp.Lexicographic.{slice_cmp}
use Rattle.std.specs.Ordering.{int_cmp, is_gt}
use Rattle.std.proofs.Common.{◌≡◌, ◌+◌, ◌<◌, sym, ap, ap₂, ◌∙◌, subst, arith}
use Rattle.theory_edge_to_edge.specs.EdgeTypes.{edge_vector}
use Rattle.cyclo_points.specs.Order.{points_of}
use Rattle.rule_model.specs.Views.{rule_of}
use Rattle.tile_place.proofs.GreatestTurns.{IsGreatestBelow, turn_of, first-turn, higher-turn, no_higher-turn}
use Rattle.tile_place.proofs.edge_turns.greatest_turn.Goals as goal
use Rattle.tile_place.proofs.edge_turns.greatest_turn.Goals.{then-is_above, else-is_above}

pub loop-steps-init : goal.loop-steps-init
loop-steps-init c =
    let m = c.args.checked.now in
    first-turn m.order (edge_vector (points_of m.order) (rule_of m) c.args.edge.kind c.args.edge.start)

pub loop-steps-preserved : goal.loop-steps-preserved
loop-steps-preserved c =
    let m = c.args.checked.now in
    let v = edge_vector (points_of m.order) (rule_of m) c.args.edge.kind c.args.edge.start in
    let s = c.loop-steps.steps in
    let best = c.loop-steps.best in
    let turns = c.n-steps-end.ensures ∙ ap (λ o. (points_of o).order) c.order.ensures.order in
    let above : c.is_above.result ≡ is_gt (slice_cmp int_cmp (turn_of m.order v s) (turn_of m.order v best)) =
    c.is_above.ensures ∙ ap₂ (λ xs ys. is_gt (slice_cmp int_cmp xs ys)) c.turned_vector-vector.ensures c.turned_vector-greatest.ensures in
    elim c.if-is_above.branch [
      | then-is_above w ↦
          subst (IsGreatestBelow m.order v (s + 1)) (sym w.best-is)
          (higher-turn m.order v s best c.loop-steps.invariant (subst (λ n. s < n) turns c.loop-steps-test.true) (sym above ∙ w.if-is_above.true))
      | else-is_above w ↦ subst (IsGreatestBelow m.order v (s + 1)) (sym w.best-is)
          (no_higher-turn m.order v s best c.loop-steps.invariant (sym above ∙ w.if-is_above.false))
    ]

pub returns : goal.returns
returns c =
    let turns = c.n-steps-end.ensures ∙ ap (λ o. (points_of o).order) c.order.ensures.order in
    record {
      below = c.loop-steps.invariant.below;
      none_above = λ j h. c.loop-steps.invariant.none_above j (omega (arith, h, turns, c.loop-steps-test.false));
    }
