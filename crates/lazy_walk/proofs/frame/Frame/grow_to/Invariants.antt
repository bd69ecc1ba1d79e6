use Rattle.std.proofs.Common.{◌-◌, ◌≤◌, length, max}
use Rattle.rule_model.specs.Tiling.{tiling_of}
use Rattle.theory_walks.specs.Frames.{GrowsTo}
use Rattle.lazy_walk.proofs.frame.Frame.grow_to.Given as goal

-- the frame has grown, and not past the depth
abbrev pub invariant-loop-self : goal.invariant-loop-self
invariant-loop-self l = record {
  grown : GrowsTo (tiling_of l.machine) l.fn.self l.self;
  within : length l.self.digits ≤ max (length l.fn.self.digits) l.depth;
}

abbrev pub decreases-loop-self : goal.decreases-loop-self
decreases-loop-self l = l.depth - length l.self.digits
