use Rattle.std.proofs.Common.{◌≡◌, ℕ, ◌*◌, ◌≤◌, List, length, map, take}
use Rattle.std.specs.List.{concat, flat_map}
use Rattle.transducer_core.specs.Merged.{AreSpread}
use Rattle.transducer_core.specs.Merging.{AreBlocksKept}
use Rattle.transducer_core.specs.Once.{AreOnce}
use Rattle.transducer_core.specs.RowBlocks.{blocks_of}
use Rattle.transducer_core.proofs.Standing.{RowsStand}
use Rattle.transducer_core.proofs.merging.merge.Given as goal

abbrev pub invariant-loop-row : goal.invariant-loop-row
invariant-loop-row l = record {
  blocks : List (List ℕ);
  kept_are : AreBlocksKept blocks l.kept.words.items l.kept.ends.items;
  places : List (List ℕ);
  stand : RowsStand l.kept.words.items places (take l.row-index (map (blocks_of l.which) l.rows.items));
  spread : AreSpread places l.starts.items;
  size : length l.starts.items ≡ 256 * l.row-index;
  rows : length places ≡ l.row-index;
  few_words : length (concat blocks) ≤ 256 * l.row-index;
  few : length blocks ≤ 16 * l.row-index;
  once : AreOnce (flat_map (λ (row : List (List ℕ)). row) (take l.row-index (map (blocks_of l.which) l.rows.items))) blocks;
}
