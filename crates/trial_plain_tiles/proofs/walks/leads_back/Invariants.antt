use Rattle.lazy_walk.specs.Standing.{Stands}
use Rattle.rule_model.specs.Tiling.{tiling_of}
use Rattle.trial_plain_tiles.proofs.walks.leads_back.Given as goal

-- the tile stands in its place
abbrev pub invariant-loop-crossed : goal.invariant-loop-crossed
invariant-loop-crossed g l =
    (goal.iterator-loop-crossed g).can_next l.crossed-iterator ×
    (goal.iterator-loop-crossed g).is_finite l.crossed-iterator ×
    Stands (tiling_of l.machine) l.frame l.tile
