use Rattle.std.proofs.Common.{◌≡◌, map, take}
use Rattle.toml.specs.View.{view}
use Rattle.rule_model.specs.Views.{as_type}
use Rattle.rule_text.specs.Written.{type_data}
use Rattle.rule_text.proofs.values.types.Given as goal

abbrev pub invariant-loop-row : goal.invariant-loop-row
invariant-loop-row l = map view l.values.items ≡ map (λ row. type_data (as_type row)) (take l.row-index l.rows)
