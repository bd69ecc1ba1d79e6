use Rattle.std.proofs.Common.{◌≡◌, ℕ, ◌<◌, true, slice_get, Some}
use Rattle.list_verify.proofs.found_lines.FoundLines.first_unmarked.Given as goal

abbrev pub invariant-loop-line : goal.invariant-loop-line
invariant-loop-line l = (j : ℕ) → j < l.line → slice_get l.self.marks.items j ≡ Some true
