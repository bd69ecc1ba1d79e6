use Rattle.std.proofs.Common.{◌≡◌, map, take}
use Rattle.rule_model.specs.Views.{as_kind}
use Rattle.builtin_rules.specs.Numbers.{fixed_kind}
use Rattle.builtin_rules.specs.Written.{written_kind}
use Rattle.builtin_rules.proofs.rules.kind_rows.Given as goal

abbrev pub invariant-loop-kind : goal.invariant-loop-kind
invariant-loop-kind l = map as_kind l.rows.items ≡ map written_kind (map fixed_kind (take l.kind-index l.kinds))
