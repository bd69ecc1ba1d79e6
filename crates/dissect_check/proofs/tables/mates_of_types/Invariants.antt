use Rattle.std.proofs.Common.{◌≡◌, map, take}
use Rattle.rule_model.specs.declared.type_row.TypeRow.{TypeRow}
use Rattle.dissect_check.proofs.tables.mates_of_types.Given as goal

abbrev pub invariant-loop-row : goal.invariant-loop-row
invariant-loop-row l = l.mates.items ≡ map (λ (t : TypeRow). t.mate) (take l.row-index l.rule.types.items)
