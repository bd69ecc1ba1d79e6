use Rattle.std.proofs.Common.{◌≡◌, All, map, take}
use Rattle.toml.specs.View.{view}
use Rattle.rule_model.specs.Views.{as_kind}
use Rattle.rule_text.specs.Written.{kind_data, HasFours}
use Rattle.rule_text.proofs.values.kinds.Given as goal

abbrev pub invariant-loop-row : goal.invariant-loop-row
invariant-loop-row l = record {
  values : map view l.values.items ≡ map (λ row. kind_data (as_kind row)) (take l.row-index l.rows);
  fours : All (λ row. HasFours (as_kind row)) (take l.row-index l.rows);
}
