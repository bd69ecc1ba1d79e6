use Rattle.std.proofs.Common.{◌≡◌, ◌-◌, ◌≤◌, length, ℕ}
use Rattle.rule_model.specs.Tiling.{Tiling, tiling_of}
use Rattle.plane_geom.specs.declared.window.Window.{Window}
use Rattle.theory_walks.specs.Frames.{FrameValue, GrowsTo}
use Rattle.window_cover.specs.Found.{CoverValue}
use Rattle.window_cover.specs.Right.{IsRight}
use Rattle.window_cover.specs.Windows.{IsLeastForWindow}
use Rattle.window_cover.proofs.tiles_of_window.searched.Given as goal

-- what is found is right for the frame, which grew from the one before the search and is no deeper than the least enough depth
pub record IsOnTheWay (t : Tiling) (w : Window) (old now : FrameValue) (c : CoverValue) : Type 0 where
  pub grows : GrowsTo t old now
  pub right : IsRight t now c
  pub its_window : c.window ≡ w
  pub not_beyond : (n : ℕ) → IsLeastForWindow t old w n → length now.digits ≤ n

abbrev pub invariant-loop-first : goal.invariant-loop-first
invariant-loop-first g l = IsOnTheWay (tiling_of l.fn.machine) l.fn.window l.fn.frame l.frame l.cover

abbrev pub decreases-loop-first : goal.decreases-loop-first
decreases-loop-first g l = 200001 - length l.cover.found
