use Rattle.std.specs.Global.{Global}
use Rattle.std.proofs.Common.{Vec, sym, arith}
use Rattle.std.proofs.lemmas.Grind.{common_steps}
use Rattle.std.proofs.lemmas.Result.{err_from_is_err_and}
use Rattle.edge_tables.specs.declared.kind_rows.KindRows.{KindRows}
use Rattle.rule_model.specs.declared.rule.Rule.{Rule}
use Rattle.dissect_check.proofs.Chains.{agrees_front, agrees_behind}
use Rattle.dissect_check.proofs.NoFault.{front, rest, usable-front, no_fault, accepted-both, coherent-both}
use Rattle.dissect_check.proofs.check.checked.Goals as goal

pub returns-in_err-before_children-clause-fault : goal.returns-in_err-before_children-clause-fault
returns-in_err-before_children-clause-fault c =
    let r = c.args.rule in
    let p = err_from_is_err_and c.from_residual.result c.from_residual.ensures.1 in
    rw (p.1, p.2) (agrees_front Rule c.in_err-before_children.field-0.0 (front r) (rest r) c.in_err-before_children.ensures)

pub tables_of_kinds-requires : goal.tables_of_kinds-requires
tables_of_kinds-requires c = record { usable = usable-front c.args.rule c.in_ok-before_children.ensures }

pub returns-in_err-rows-clause-fault : goal.returns-in_err-rows-clause-fault
returns-in_err-rows-clause-fault c =
    let r = c.args.rule in
    let p = err_from_is_err_and c.from_residual-in_err-rows.result c.from_residual-in_err-rows.ensures.1 in
    rw (p.1, p.2) (agrees_behind (Vec KindRows Global) Rule c.in_err-rows.field-0.0 (front r) (rest r)
    (sym c.in_ok-before_children.ensures) c.in_err-rows.ensures.fault)

pub tables_of-requires-clause-coherent : goal.tables_of-requires-clause-coherent
tables_of-requires-clause-coherent c = coherent-both c.args.rule c.points_law.ensures c.in_ok-before_children.ensures c.in_ok-rows.ensures.fault

pub uses_of_kinds-requires-clause-usable : goal.uses_of_kinds-requires-clause-usable
uses_of_kinds-requires-clause-usable c = usable-front c.args.rule c.in_ok-before_children.ensures

pub uses_of_kinds-requires-clause-each_used : goal.uses_of_kinds-requires-clause-each_used
uses_of_kinds-requires-clause-each_used c = (accepted-both c.args.rule c.in_ok-before_children.ensures
    c.in_ok-rows.ensures.fault).edge_to_edge.each_used

pub admit-requires-clause-accepted : goal.admit-requires-clause-accepted
admit-requires-clause-accepted c = accepted-both c.args.rule c.in_ok-before_children.ensures c.in_ok-rows.ensures.fault

pub returns-clause-fault : goal.returns-clause-fault
returns-clause-fault c = no_fault c.args.rule c.in_ok-before_children.ensures c.in_ok-rows.ensures.fault

pub tables_of-requires-clause-kinds : goal.tables_of-requires-clause-kinds
tables_of-requires-clause-kinds c = grind (arith, common_steps)

pub returns-in_err-tables-clause-rule_given : goal.returns-in_err-tables-clause-rule_given
returns-in_err-tables-clause-rule_given c = grind (arith, common_steps)

pub returns-in_err-uses-clause-rule_given : goal.returns-in_err-uses-clause-rule_given
returns-in_err-uses-clause-rule_given c = grind (arith, common_steps)

pub admit-requires-clause-its_tables : goal.admit-requires-clause-its_tables
admit-requires-clause-its_tables c = grind (arith, common_steps)

pub admit-requires-clause-its_uses : goal.admit-requires-clause-its_uses
admit-requires-clause-its_uses c = grind (arith, common_steps)

pub returns-clause-rule_given : goal.returns-clause-rule_given
returns-clause-rule_given c = grind (arith, common_steps)
