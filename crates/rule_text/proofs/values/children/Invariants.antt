use Rattle.std.proofs.Common.{◌≡◌, All, map, take}
use Rattle.toml.specs.View.{view}
use Rattle.rule_model.specs.Views.{as_child}
use Rattle.rule_text.specs.Written.{child_data, IsFour}
use Rattle.rule_text.proofs.values.children.Given as goal

abbrev pub invariant-loop-c : goal.invariant-loop-c
invariant-loop-c l = record {
  values : map view l.values.items ≡ map (λ c. child_data (as_child c)) (take l.c-index l.cs);
  fours : All (λ c. IsFour c.shift) (take l.c-index l.cs);
}
