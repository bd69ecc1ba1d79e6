use Rattle.std.proofs.Common.{◌≡◌, take}
use Rattle.theory_walks.specs.Frames.{FrameValue}
use Rattle.half_glue.specs.NumberedTiles.{tiles_in}
use Rattle.half_glue.specs.Keys.{first_keys}
use Rattle.half_glue.specs.Lifted.{wholes_of}
use Rattle.half_glue.proofs.covered_order.pair_keys.Given as goal

abbrev pub invariant-loop-number : goal.invariant-loop-number
invariant-loop-number l = (f : FrameValue) → l.keys.items ≡ first_keys (take l.number (wholes_of f (tiles_in l.fn.halves) l.fn.pairs))
