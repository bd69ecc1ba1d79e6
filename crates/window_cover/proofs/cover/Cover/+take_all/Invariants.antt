use Rattle.std.proofs.Common.{◌≡◌, ◌+◌, ◌++◌, true, map, drop, length}
use Rattle.std.specs.List.{AllByRecursion}
use Rattle.theory_frames.specs.Descent.{of_whole}
use Rattle.rule_model.specs.Tiling.{tiling_of}
use Rattle.rule_model.specs.Views.{rule_of}
use Rattle.theory_substitution.specs.Rule.{children_of}
use Rattle.window_cover.specs.Descending.{tiles_in, digits_above, found_of, from_number, HasMore, IsKeptTile}
use Rattle.window_descent.specs.Rows.{AreRows, levels_of}
use Rattle.window_cover.proofs.cover.Cover.+take_all.Given as goal

abbrev pub decreases-take_all : goal.decreases-take_all
decreases-take_all l = l.level

abbrev pub invariant-loop-number : goal.invariant-loop-number
invariant-loop-number l = record {
  same_window : l.self.window ≡ l.fn.self.window;
  same_border : l.self.border ≡ l.fn.self.border;
  same_above : drop l.level l.path ≡ drop l.level l.fn.path;
  longer : HasMore l.fn.self.found l.self.found;
  one_below : l.below + 1 ≡ l.level;
  found : tiles_in l.machine.order l.self.found ++ map (of_whole (digits_above l.level l.fn.path)) (from_number
      (tiling_of l.machine) l.fn.self.window true l.below l.part l.number)
      ≡ tiles_in l.machine.order l.fn.self.found ++ map (of_whole (digits_above l.level l.fn.path)) (found_of
      (tiling_of l.machine) l.fn.self.window true l.level l.part);
  kept : AllByRecursion (IsKeptTile (tiling_of l.machine)) l.fn.self.found → AllByRecursion (IsKeptTile (tiling_of l.machine)) l.self.found;
  rows : AreRows l.machine l.rows;
  levels : levels_of l.rows ≡ levels_of l.fn.rows;
  count_is : l.count ≡ length (children_of (rule_of l.machine) l.part.kind);
}
