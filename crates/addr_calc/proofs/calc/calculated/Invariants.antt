use Rattle.std.proofs.Common.{◌+◌, ◌≤◌, length, option_map}
use Rattle.cyclo_points.specs.Text.{newline}
use Rattle.rule_model.specs.Tiling.{tiling_of}
use Rattle.addr_calc.specs.Calculation.{AllFit}
use Rattle.addr_calc.specs.Compiled.{AreOf}
use Rattle.tile_shape.specs.Words.{texts_between}
use Rattle.addr_calc.specs.Views.{parts_behind}
use Rattle.addr_calc.proofs.Scripts.{Comes, size_left}
use Rattle.addr_calc.proofs.calc.calculated.Given as goal

-- what comes of the lines left, with the text printed so far before it, comes of the script
abbrev pub invariant-loop-left : goal.invariant-loop-left
invariant-loop-left g l = record {
  few : l.calculation.number + size_left (option_map (λ text. text.now) l.left) ≤ length l.script + 1;
  all_fit : AllFit (tiling_of l.machine) l.calculation.names;
  compiled : AreOf (tiling_of l.machine) l.pairs;
  comes : Comes (tiling_of l.machine) (texts_between newline l.script) l.calculation (parts_behind newline (option_map (λ text. text.now) l.left));
}

abbrev pub decreases-loop-left : goal.decreases-loop-left
decreases-loop-left g l = size_left (option_map (λ text. text.now) l.left)
