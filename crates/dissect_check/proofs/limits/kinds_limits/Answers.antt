use Rattle.std.proofs.Common.{arith, length, sym}
use Rattle.std.proofs.lemmas.Result.{err_from_is_err_and}
use Rattle.rule_model.specs.Views.{as_rule}
use Rattle.dissect_check.specs.FirstFault.{kind_limits}
use Rattle.theory_addresses.proofs.Searches.{first_below-stop}
use Rattle.dissect_check.proofs.limits.kinds_limits.Goals as goal

pub returns-in_err-kind_limits : goal.returns-in_err-kind_limits
returns-in_err-kind_limits c =
    let r = c.args.rule.now in
    let p = err_from_is_err_and c.from_residual.result c.from_residual.ensures.1 in
    rw (p.1, p.2) (first_below-stop (kind_limits r.order (as_rule r)) c.loop-kind.kind
    (length (as_rule r).kinds) c.in_err-kind_limits.field-0.0 c.loop-kind.invariant
    (sym c.in_err-kind_limits.ensures) (omega arith))
