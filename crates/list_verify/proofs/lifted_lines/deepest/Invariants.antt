use Rattle.std.proofs.Common.{◌≡◌, ◌≤◌, drop}
use Rattle.rule_model.specs.Tiling.{Tiling}
use Rattle.list_verify.specs.FoundLines.{entries_of}
use Rattle.list_verify.specs.Lifted.{deepest_entry}
use Rattle.list_verify.proofs.lifted_lines.deepest.Given as goal

abbrev pub invariant-loop-line : goal.invariant-loop-line
invariant-loop-line l =
    ((t : Tiling) → deepest_entry t l.depth (entries_of (drop l.line-index l.fn.lines)) ≡ deepest_entry t
    l.fn.least (entries_of l.fn.lines)) × (l.depth ≤ 64)
