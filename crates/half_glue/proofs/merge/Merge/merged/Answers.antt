use Rattle.std.proofs.Common.{◌++◌, sym, subst}
use Rattle.half_glue.specs.Merged.{AreMerged}
use Rattle.half_glue.proofs.NextMerged.{rest-merged}
use Rattle.half_glue.proofs.merge.Merge.merged.Goals as goal

pub returns : goal.returns
returns c =
    let tiles = c.args.self.now.halves.tiles.now in
    let crossed = c.args.self.now.halves.crossed.now in
    let inner = c.args.self.now.inner.now in
    let outer = c.args.self.now.outer.now in
    subst (AreMerged (tiles ++ crossed) inner outer) (sym c.in_ok-extend_from_slice.ensures.items)
    (rest-merged tiles crossed inner outer c.requires.in_order c.requires.rising c.requires.outer_in_order
    c.loop-next.done c.loop-next.next c.loop-next.pairs.items c.loop-next.invariant c.loop-next-test.false
    c.loop-next.auto.next-end)
