use Rattle.std.specs.Prelude.{Vec}
use Rattle.std.specs.Global.{Global}
use Rattle.std.proofs.Common.{length, arith}
use Rattle.std.proofs.lemmas.Grind.{common_steps}
use Rattle.std.proofs.lemmas.Result.{err_from_is_err_and}
use Rattle.edge_tables.specs.declared.kind_rows.KindRows.{KindRows}
use Rattle.rule_model.specs.Views.{as_rule, rule_of}
use Rattle.dissect_check.specs.FirstFault.{boundary_of_kind}
use Rattle.dissect_check.proofs.Agreeing.{agrees_below}
use Rattle.dissect_check.proofs.boundaries.boundaries.Goals as goal

pub returns-in_err-tables_of_kind-clause-fault : goal.returns-in_err-tables_of_kind-clause-fault
returns-in_err-tables_of_kind-clause-fault c =
    let r = c.args.rule.now in
    let p = err_from_is_err_and c.from_residual-in_err-tables_of_kind.result c.from_residual-in_err-tables_of_kind.ensures.1 in
    rw (p.1, p.2)
    (agrees_below (Vec KindRows Global) c.in_err-tables_of_kind.field-0.0
    (boundary_of_kind r.order (as_rule r)) c.loop-kind.kind (length (rule_of r).kinds)
    c.loop-kind.invariant.no_fault (omega arith) c.in_err-tables_of_kind.ensures.fault)

pub tables_of_kind-requires-clause-kind_exists : goal.tables_of_kind-requires-clause-kind_exists
tables_of_kind-requires-clause-kind_exists c = grind (arith, common_steps)

pub returns-in_err-tables_of_kind-clause-tables : goal.returns-in_err-tables_of_kind-clause-tables
returns-in_err-tables_of_kind-clause-tables c = grind (arith, common_steps)
