use Rattle.std.proofs.Common.{◌≡◌, length, map, take}
use Rattle.rule_model.specs.declared.kind_row.KindRow.{KindRow}
use Rattle.rule_model.specs.Views.{as_kind}
use Rattle.c_values.specs.Rules.{kind_as, no_kind, padded}
use Rattle.c_values.proofs.plain_rule_numbers.put_kinds.Given as goal

-- the kinds so far, and blank ones behind them
abbrev pub invariant-loop-i : goal.invariant-loop-i
invariant-loop-i l = l.kinds ≡ padded (length l.fn.kinds) no_kind (map (λ (x : KindRow). kind_as (as_kind x)) (take l.i l.rule.kinds.items))
