use Rattle.window_cover.specs.Blocks.{AreNear}
use Rattle.window_cover.proofs.blocks.are_near.Given as goal

abbrev pub invariant-loop-number : goal.invariant-loop-number
invariant-loop-number l = AreNear l.leaves.found l.first l.number l.depth
