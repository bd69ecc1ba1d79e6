use Rattle.std.proofs.Common.{◌≡◌, length, map, take}
use Rattle.rule_model.specs.declared.type_row.TypeRow.{TypeRow}
use Rattle.rule_model.specs.Views.{as_type}
use Rattle.c_values.specs.Rules.{no_type, padded, type_as}
use Rattle.c_values.proofs.plain_rule_numbers.put_types.Given as goal

-- the types so far, and blank ones behind them
abbrev pub invariant-loop-i : goal.invariant-loop-i
invariant-loop-i l = l.types ≡ padded (length l.fn.types) no_type (map (λ (x : TypeRow). type_as (as_type x)) (take l.i l.rule.types.items))
