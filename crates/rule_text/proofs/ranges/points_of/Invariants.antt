use Rattle.std.proofs.Common.{◌≡◌, drop}
use Rattle.rule_text.specs.Forms.{each}
use Rattle.rule_text.specs.Ranges.{file_point}
use Rattle.rule_text.proofs.Walks.{behind}
use Rattle.rule_text.proofs.ranges.points_of.Given as goal

abbrev pub invariant-loop-row : goal.invariant-loop-row
invariant-loop-row l = behind l.points.items
    (each (λ row. file_point l.order row.items) (drop l.row-index l.rows)) ≡ each
    (λ row. file_point l.order row.items) l.rows
