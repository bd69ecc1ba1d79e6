use Rattle.std.proofs.Common.{◌≡◌, ℕ, ◌+◌, ◌≤◌, length}
use Rattle.tile_shape.specs.UsesInOrder.{uses_in_row}
use Rattle.tile_shape.proofs.UseRows.{row_rest}
use Rattle.tile_shape.proofs.uses.count_in_row.Given as goal

abbrev pub invariant-loop-child : goal.invariant-loop-child
invariant-loop-child l = record {
  counted : (p : ℕ) → l.count + length (row_rest l.kind p l.child-index l.row) ≡ length (uses_in_row l.kind p 0 l.row);
  within : l.count ≤ l.child-index;
}
