use Rattle.std.proofs.Common.{◌≡◌, length}
use Rattle.rule_model.specs.Tiling.{tiling_of}
use Rattle.tile_place.proofs.TurnedPlaces.{AreGreatestBelow}
use Rattle.tile_place.proofs.edge_turns.EdgeTurns.new.Given as goal

abbrev pub invariant-loop-place : goal.invariant-loop-place
invariant-loop-place l = record {
  count : length l.turns.items ≡ l.place;
  each : AreGreatestBelow (tiling_of l.checked) (record { sides = l.sides; turns = l.turns.items }) l.place;
}
