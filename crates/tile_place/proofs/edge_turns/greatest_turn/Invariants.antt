use Rattle.theory_edge_to_edge.specs.EdgeTypes.{edge_vector}
use Rattle.cyclo_points.specs.Order.{points_of}
use Rattle.rule_model.specs.Views.{rule_of}
use Rattle.tile_place.proofs.GreatestTurns.{IsGreatestBelow}
use Rattle.tile_place.proofs.edge_turns.greatest_turn.Given as goal

abbrev pub invariant-loop-steps : goal.invariant-loop-steps
invariant-loop-steps l =
    IsGreatestBelow l.checked.order (edge_vector (points_of l.checked.order) (rule_of l.checked) l.edge.kind l.edge.start) l.steps l.best
