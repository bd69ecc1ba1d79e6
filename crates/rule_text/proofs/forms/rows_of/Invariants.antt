use Rattle.std.proofs.Common.{◌≡◌, All, drop, length, map}
use Rattle.toml.specs.View.{view}
use Rattle.rule_text.specs.Forms.{each, row}
use Rattle.rule_text.proofs.Walks.{behind}
use Rattle.rule_text.proofs.forms.rows_of.Given as goal

abbrev pub invariant-loop-value : goal.invariant-loop-value
invariant-loop-value l =
    (behind (map (λ w. w.items) l.rows.items) (each (λ v. row l.len (view v)) (drop l.value-index l.values))
    ≡ each (λ v. row l.len (view v)) l.values)
    × All (λ w. length w.items ≡ l.len) l.rows.items
