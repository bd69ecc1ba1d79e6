use Rattle.std.proofs.Common.{◌≡◌, drop}
use Rattle.toml.specs.Data.{as_integer}
use Rattle.toml.specs.View.{view}
use Rattle.rule_text.specs.Forms.{each}
use Rattle.rule_text.proofs.Walks.{behind}
use Rattle.rule_text.proofs.forms.integers_of.Given as goal

abbrev pub invariant-loop-value : goal.invariant-loop-value
invariant-loop-value l = behind l.numbers.items
    (each (λ v. as_integer (view v)) (drop l.value-index l.values)) ≡ each (λ v. as_integer (view v)) l.values
