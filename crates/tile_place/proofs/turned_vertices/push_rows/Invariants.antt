use Rattle.std.proofs.Common.{◌≡◌, ◌+◌, ◌*◌, length}
use Rattle.rule_model.specs.Tiling.{tiling_of}
use Rattle.tile_place.specs.TurnedVertices.{turned_table}
use Rattle.tile_place.proofs.TurnedPlaces.{AreTurnedBelow}
use Rattle.tile_place.proofs.turned_vertices.push_rows.Given as goal

abbrev pub invariant-loop-row : goal.invariant-loop-row
invariant-loop-row l = record {
  count : length l.points.items ≡ l.row * l.sides;
  each : AreTurnedBelow (tiling_of l.checked) (turned_table l.order l.sides l.points.items)
      (l.row * l.sides);
}

abbrev pub invariant-loop-number : goal.invariant-loop-number
invariant-loop-number l = record {
  count : length l.points.items ≡ l.row * l.sides + l.number;
  each : AreTurnedBelow (tiling_of l.checked) (turned_table l.order l.sides l.points.items)
      (l.row * l.sides + l.number);
}
