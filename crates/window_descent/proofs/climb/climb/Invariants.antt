use Rattle.std.proofs.Common.{◌≡◌, ℕ, ◌-◌, ◌<◌, ◌≤◌, false, length}
use Rattle.theory_walks.specs.Ancestors.{full}
use Rattle.lazy_walk.specs.Ancestors.{IsAncestor}
use Rattle.theory_walks.specs.Frames.{GrowsTo}
use Rattle.rule_model.specs.Tiling.{tiling_of}
use Rattle.window_descent.specs.Climbing.{holds_at}
use Rattle.window_descent.proofs.climb.climb.Given as goal

abbrev pub invariant-loop-ancestor : goal.invariant-loop-ancestor
invariant-loop-ancestor l = record {
  grown : GrowsTo (tiling_of l.machine) l.fn.frame l.frame;
  deep : l.ancestor.level ≤ length l.frame.digits;
  ancestor : IsAncestor (tiling_of l.machine) (full (tiling_of l.machine) l.fn.frame) l.ancestor;
  none_before : (k : ℕ) → l.from ≤ k → k < l.ancestor.level → holds_at (tiling_of l.machine) (full (tiling_of l.machine) l.fn.frame) l.window k
      ≡ false;
}

abbrev pub decreases-loop-ancestor : goal.decreases-loop-ancestor
decreases-loop-ancestor l = 64 - l.ancestor.level
