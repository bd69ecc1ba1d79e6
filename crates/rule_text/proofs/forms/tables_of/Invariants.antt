use Rattle.std.proofs.Common.{◌≡◌, drop, map}
use Rattle.toml.specs.Data.{as_table}
use Rattle.toml.specs.View.{view, table_view}
use Rattle.rule_text.specs.Forms.{each}
use Rattle.rule_text.proofs.Walks.{behind}
use Rattle.rule_text.proofs.forms.tables_of.Given as goal

abbrev pub invariant-loop-value : goal.invariant-loop-value
invariant-loop-value l = behind (map (λ t. table_view t.now) l.tables.items)
    (each (λ v. as_table (view v)) (drop l.value-index l.values)) ≡ each (λ v. as_table (view v)) l.values
