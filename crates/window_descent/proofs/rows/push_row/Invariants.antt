use Rattle.std.proofs.Common.{◌≡◌, ◌+◌, ◌<◌, ℕ, length, get_or}
use Rattle.rule_model.specs.Views.{rule_of}
use Rattle.theory_substitution.specs.Rule.{children_of}
use Rattle.window_descent.specs.Parts.{IsPartAt}
use Rattle.window_descent.specs.Rows.{IsLonger, only_turned, no_part}
use Rattle.window_descent.proofs.rows.push_row.Given as goal

abbrev pub invariant-loop-number : goal.invariant-loop-number
invariant-loop-number l = record {
  longer : IsLonger l.fn.children.items l.children.items;
  count_is : l.count ≡ length (children_of (rule_of l.machine) l.fn.row.kind);
  so_far : length l.children.items ≡ length l.fn.children.items + l.number;
  each : (i : ℕ) → i < l.number → IsPartAt l.machine l.fn.row.kind i l.scale (only_turned l.fn.row.turn) (get_or l.children.items
      (length l.fn.children.items + i) no_part);
}
