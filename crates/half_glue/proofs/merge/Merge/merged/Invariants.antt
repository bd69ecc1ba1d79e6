use Rattle.half_glue.specs.NumberedTiles.{tiles_in}
use Rattle.half_glue.specs.Merged.{IsMerging}
use Rattle.half_glue.proofs.merge.Merge.merged.Given as goal

abbrev pub invariant-loop-next : goal.invariant-loop-next
invariant-loop-next l = IsMerging (tiles_in l.fn.self.halves) l.fn.self.inner.now l.fn.self.outer.now l.done l.next l.pairs.items
