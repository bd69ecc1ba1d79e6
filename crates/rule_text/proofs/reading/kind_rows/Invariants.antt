use Rattle.std.proofs.Common.{◌≡◌, drop, map}
use Rattle.toml.specs.View.{table_view}
use Rattle.rule_model.specs.Views.{as_kind}
use Rattle.rule_text.specs.Document.{kind_in}
use Rattle.rule_text.specs.Steps.{in_order}
use Rattle.rule_text.proofs.Rows.{onward}
use Rattle.rule_text.proofs.reading.kind_rows.Given as goal

abbrev pub invariant-loop-i : goal.invariant-loop-i
invariant-loop-i l =
    onward (map as_kind l.rows.items) (in_order (λ kind entry. kind_in l.order kind (table_view entry.now)) l.i (drop l.i l.entries))
    ≡ in_order (λ kind entry. kind_in l.order kind (table_view entry.now)) 0 l.entries
