use Rattle.theory_frames.specs.Frame.{IsTileOf}
use Rattle.theory_walks.specs.Frames.{whole, IsFrameOf}
use Rattle.rule_model.specs.Tiling.{tiling_of, children}
use Rattle.tile_shape.specs.Views.{address_of}
use Rattle.trial_plain_tiles.proofs.walks.drawn_path.Given as goal

-- the frame stays one, and the tile reached is one of it
abbrev pub invariant-loop : goal.invariant-loop
invariant-loop g l = IsFrameOf (tiling_of l.machine) l.frame × IsTileOf (children (tiling_of l.machine)) (whole l.frame) (address_of l.tile)
