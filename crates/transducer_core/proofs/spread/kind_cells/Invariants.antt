use Rattle.std.proofs.Common.{◌≡◌, ◌*◌, length, map, take}
use Rattle.transducer_core.specs.Merged.{AreSpread, AreFilled, last_cell}
use Rattle.transducer_core.proofs.spread.kind_cells.Given as goal

abbrev pub invariant-loop-row : goal.invariant-loop-row
invariant-loop-row l = record {
  size : length l.flat.items ≡ 256 * l.row-index;
  spread : AreSpread (take l.row-index (map (λ r. map last_cell r.children.items) l.rows.items)) l.flat.items;
  filled : AreFilled (take l.row-index (map (λ r. map last_cell r.children.items) l.rows.items)) l.flat.items;
}
