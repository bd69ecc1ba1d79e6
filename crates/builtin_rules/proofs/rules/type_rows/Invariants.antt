use Rattle.std.proofs.Common.{◌≡◌, map, take}
use Rattle.rule_model.specs.Views.{as_type}
use Rattle.builtin_rules.specs.Numbers.{fixed_type}
use Rattle.builtin_rules.specs.Written.{written_type}
use Rattle.builtin_rules.proofs.rules.type_rows.Given as goal

abbrev pub invariant-loop-edge_type : goal.invariant-loop-edge_type
invariant-loop-edge_type l = map as_type l.rows.items ≡ map written_type (map fixed_type (take l.edge_type-index l.types))
