use Rattle.std.proofs.Common.{◌≡◌, slice_get, ◌+◌, length}
use Rattle.tile_shape.specs.UsesInOrder.{uses_in_row}
use Rattle.tile_shape.proofs.UseRows.{row_rest}
use Rattle.tile_shape.proofs.uses.use_in_row.Given as goal

abbrev pub invariant-loop-number : goal.invariant-loop-number
invariant-loop-number l = record {
  same : slice_get (row_rest l.kind l.parent l.number l.row) l.left ≡ slice_get (uses_in_row l.kind l.parent 0 l.row) l.i;
  counted : l.left + length (uses_in_row l.kind l.parent 0 l.row) ≡ l.i + length (row_rest l.kind l.parent l.number l.row);
}
