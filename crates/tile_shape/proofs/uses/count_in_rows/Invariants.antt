use Rattle.std.proofs.Common.{◌≡◌, ◌+◌, ◌*◌, ◌≤◌, length, map}
use Rattle.tile_shape.specs.UsesInOrder.{uses_in_order}
use Rattle.tile_shape.proofs.UseRows.{rows_rest}
use Rattle.tile_shape.proofs.uses.count_in_rows.Given as goal

abbrev pub invariant-loop-row : goal.invariant-loop-row
invariant-loop-row l = record {
  counted : l.count + length (rows_rest l.kind l.row-index (map (λ row. row.items) l.rows)) ≡ length
      (uses_in_order (map (λ row. row.items) l.rows) l.kind);
  within : l.count ≤ 16 * l.row-index;
}
