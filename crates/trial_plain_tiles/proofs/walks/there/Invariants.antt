use Rattle.lazy_walk.specs.Standing.{Stands}
use Rattle.rule_model.specs.Tiling.{tiling_of}
use Rattle.trial_plain_tiles.proofs.walks.there.Given as goal

-- the tile stands in its place
abbrev pub invariant-loop-edge : goal.invariant-loop-edge
invariant-loop-edge g l = Stands (tiling_of l.machine) l.frame l.tile
