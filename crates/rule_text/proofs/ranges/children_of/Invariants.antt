use Rattle.std.proofs.Common.{◌≡◌, drop, map}
use Rattle.rule_model.specs.Views.{as_child}
use Rattle.rule_text.specs.Forms.{each}
use Rattle.rule_text.specs.Ranges.{child_in_row}
use Rattle.rule_text.proofs.Walks.{behind}
use Rattle.rule_text.proofs.ranges.children_of.Given as goal

abbrev pub invariant-loop-row : goal.invariant-loop-row
invariant-loop-row l = behind (map as_child l.children.items)
    (each (λ row. child_in_row l.order row.items) (drop l.row-index l.rows)) ≡ each
    (λ row. child_in_row l.order row.items) l.rows
