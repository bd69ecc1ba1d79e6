use Rattle.std.proofs.Common.{take}
use Rattle.rule_model.specs.Tiling.{tiling_of}
use Rattle.half_glue.proofs.SettledTiles.{AreSettled}
use Rattle.half_glue.proofs.ArePaired.{ArePaired}
use Rattle.half_glue.proofs.paired.paired.Given as goal

abbrev pub invariant-loop-number : goal.invariant-loop-number
invariant-loop-number l =
    AreSettled (tiling_of l.fn.machine) l.fn.frame l.frame l.fn.tiles (take l.number l.fn.tiles)
    × ArePaired (tiling_of l.fn.machine) l.frame l.fn.tiles 0 l.number l.made.crossed.items l.made.pairs.items
