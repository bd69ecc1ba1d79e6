use Rattle.std.proofs.Common.{take}
use Rattle.tile_shape.specs.Views.{address_of}
use Rattle.theory_walks.proofs.Walked.{HasLaws, IsOnPath}
use Rattle.lazy_walk.proofs.frame.Frame.grow_along.Given as goal

-- the laws hold, and the edges crossed lead to the tile
abbrev pub invariant-loop-edge : goal.invariant-loop-edge
invariant-loop-edge g l = HasLaws l.machine × IsOnPath l.machine l.fn.self l.self (address_of l.tile) (take l.edge-index l.path)
