use Rattle.std.proofs.Common.{◌≡◌, ◌<◌, length, map, slice_get}
use Rattle.tile_shape.specs.UsesInOrder.{uses_in_order}
use Rattle.tile_shape.proofs.UseRows.{rows_rest}
use Rattle.tile_shape.proofs.uses.use_in_rows.Given as goal

abbrev pub invariant-loop-parent : goal.invariant-loop-parent
invariant-loop-parent l = record {
  same : slice_get (rows_rest l.kind l.parent (map (λ row. row.items) l.rows)) l.left ≡ slice_get
      (uses_in_order (map (λ row. row.items) l.rows) l.kind) l.i;
  within : l.left < length (rows_rest l.kind l.parent (map (λ row. row.items) l.rows));
}
