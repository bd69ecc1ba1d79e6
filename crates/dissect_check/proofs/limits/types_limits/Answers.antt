use Rattle.std.proofs.Common.{arith, length, sym}
use Rattle.std.proofs.lemmas.Result.{err_from_is_err_and}
use Rattle.rule_model.specs.Views.{as_rule}
use Rattle.dissect_check.specs.FirstFault.{type_limits}
use Rattle.theory_addresses.proofs.Searches.{first_below-stop}
use Rattle.dissect_check.proofs.limits.types_limits.Goals as goal

pub returns-in_err-type_limits : goal.returns-in_err-type_limits
returns-in_err-type_limits c =
    let r = c.args.rule.now in
    let p = err_from_is_err_and c.from_residual.result c.from_residual.ensures.1 in
    rw (p.1, p.2) (first_below-stop (type_limits r.order (as_rule r)) c.loop-ty.ty (length (as_rule r).types)
    c.in_err-type_limits.field-0.0 c.loop-ty.invariant (sym c.in_err-type_limits.ensures) (omega arith))
