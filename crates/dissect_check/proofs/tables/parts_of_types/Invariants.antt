use Rattle.std.proofs.Common.{◌≡◌, map, take}
use Rattle.rule_model.specs.declared.type_row.TypeRow.{TypeRow}
use Rattle.dissect_check.proofs.tables.parts_of_types.Given as goal

abbrev pub invariant-loop-row : goal.invariant-loop-row
invariant-loop-row l = map (λ parts. parts.items) l.subdivisions.items ≡ map (λ (t : TypeRow). t.parts.items) (take l.row-index l.rule.types.items)
