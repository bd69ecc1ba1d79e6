use Rattle.std.proofs.Common.{◌≡◌, ◌+◌, ◌*◌, ◌++◌, map, drop, length}
use Rattle.std.specs.List.{AllByRecursion}
use Rattle.theory_frames.specs.Descent.{of_whole}
use Rattle.rule_model.specs.Tiling.{tiling_of}
use Rattle.rule_model.specs.Views.{rule_of}
use Rattle.theory_substitution.specs.Rule.{children_of}
use Rattle.window_descent.specs.Rows.{levels_of}
use Rattle.window_cover.specs.Descending.{tiles_in, digits_above, found_of, from_number, HasMore, IsKeptTile}
use Rattle.window_cover.specs.Gathering.{AreGathering}
use Rattle.window_cover.specs.Runs.{seen}
use Rattle.window_cover.proofs.runs.Runs.+gathering.Given as goal

abbrev pub decreases-gather : goal.decreases-gather
decreases-gather l = l.level * 2 + 1

abbrev pub decreases-take_in : goal.decreases-take_in
decreases-take_in l = l.level * 2

abbrev pub invariant-take_in-loop-number : goal.invariant-take_in-loop-number
invariant-take_in-loop-number l = record {
  state : AreGathering l.machine l.self l.rows l.blocks;
  same_window : l.self.leaves.window ≡ l.fn.self.leaves.window;
  same_above : drop l.level l.path ≡ drop l.level l.fn.path;
  longer : HasMore (seen l.fn.self) (seen l.self);
  one_below : l.below + 1 ≡ l.level;
  found : tiles_in l.machine.order (seen l.self) ++ map (of_whole (digits_above l.level l.fn.path)) (from_number
      (tiling_of l.machine) l.fn.self.leaves.window l.all l.below l.part l.number)
      ≡ tiles_in l.machine.order (seen l.fn.self) ++ map (of_whole (digits_above l.level l.fn.path)) (found_of
      (tiling_of l.machine) l.fn.self.leaves.window l.all l.level l.part);
  kept : AllByRecursion (IsKeptTile (tiling_of l.machine)) (seen l.fn.self) → AllByRecursion (IsKeptTile (tiling_of l.machine)) (seen l.self);
  levels : levels_of l.rows ≡ levels_of l.fn.rows;
  count_is : l.count ≡ length (children_of (rule_of l.machine) l.part.kind);
}
