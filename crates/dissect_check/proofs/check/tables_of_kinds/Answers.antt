use Rattle.std.specs.Global.{Global}
use Rattle.std.proofs.Common.{Vec, [], ◌∷◌}
use Rattle.std.proofs.lemmas.Result.{err_from_is_err_and}
use Rattle.edge_tables.specs.declared.kind_rows.KindRows.{KindRows}
use Rattle.rule_model.specs.Views.{as_rule}
use Rattle.dissect_check.specs.declared.inflated.Inflated.{Inflated}
use Rattle.dissect_check.specs.FirstFault.{loose_edges, boundaries, uses, glues}
use Rattle.dissect_check.proofs.Chains.{agrees_first}
use Rattle.dissect_check.proofs.check.tables_of_kinds.Goals as goal

pub returns-in_err-parents-clause-fault : goal.returns-in_err-parents-clause-fault
returns-in_err-parents-clause-fault c =
    let o = c.args.rule.now.order in
    let l = as_rule c.args.rule.now in
    let p = err_from_is_err_and c.from_residual.result c.from_residual.ensures.1 in
    rw (p.1, p.2) (agrees_first (Vec Inflated Global) (Vec KindRows Global) c.in_err-parents.field-0.0
    (loose_edges o l) (boundaries o l ∷ uses o l ∷ glues o l ∷ []) c.in_err-parents.ensures.fault)
