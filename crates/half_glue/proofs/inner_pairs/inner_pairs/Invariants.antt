use Rattle.std.proofs.Common.{◌≡◌, length}
use Rattle.theory_walks.specs.Frames.{FrameValue, IsFrameOf}
use Rattle.rule_model.specs.Tiling.{tiling_of}
use Rattle.half_glue.specs.Given.{AreGiven}
use Rattle.half_glue.specs.Inner.{AreInner, AreRising}
use Rattle.half_glue.proofs.inner_pairs.inner_pairs.Given as goal

abbrev pub invariant-loop-number : goal.invariant-loop-number
invariant-loop-number l = record {
  as_many : length l.taken ≡ length l.fn.search.tiles.now;
  rising : AreRising l.number l.pairs.items;
  inner : (f : FrameValue) → IsFrameOf (tiling_of l.fn.search.machine.now) f
      → AreGiven (tiling_of l.fn.search.machine.now) f l.fn.search.tiles.now
      → AreInner (tiling_of l.fn.search.machine.now) f l.fn.search.tiles.now l.pairs.items l.taken;
}
