use Rattle.std.specs.Global.{Global}
use Rattle.std.proofs.Common.{Vec, length, arith}
use Rattle.std.proofs.lemmas.Grind.{common_steps}
use Rattle.std.proofs.lemmas.Result.{err_from_is_err_and}
use Rattle.rule_model.specs.Views.{as_rule, rule_of}
use Rattle.dissect_check.specs.declared.inflated.Inflated.{Inflated}
use Rattle.dissect_check.specs.FirstFault.{loose_of_kind}
use Rattle.dissect_check.proofs.Agreeing.{agrees_below}
use Rattle.theory_addresses.proofs.Searches.{first_below-step}
use Rattle.dissect_check.proofs.Parents.{one_more}
use Rattle.dissect_check.proofs.loose.loose_edges.Goals as goal

pub returns-in_err-loose_of_kind-clause-fault : goal.returns-in_err-loose_of_kind-clause-fault
returns-in_err-loose_of_kind-clause-fault c =
    let r = c.args.rule.now in
    let p = err_from_is_err_and c.from_residual-in_err-loose_of_kind.result c.from_residual-in_err-loose_of_kind.ensures.1 in
    rw (p.1, p.2)
    (agrees_below (Vec Inflated Global) c.in_err-loose_of_kind.field-0.0 (loose_of_kind r.order (as_rule r))
    c.loop-kind.kind (length (rule_of r).kinds) c.loop-kind.invariant.no_fault (omega arith)
    c.in_err-loose_of_kind.ensures.fault)

pub loop-kind-preserved : goal.loop-kind-preserved
loop-kind-preserved c =
    let r = c.args.rule.now in
    record {
      no_fault = first_below-step (loose_of_kind r.order (as_rule r)) c.loop-kind.kind
          c.loop-kind.invariant.no_fault c.in_ok-loose_of_kind.ensures.fault;
      kept = one_more r c.loop-kind.kind c.loop-kind.parents.items c.push.new.self.items
          c.in_ok-loose_of_kind.field-0 c.in_ok-push.ensures.items c.loop-kind.invariant.kept
          c.in_ok-loose_of_kind.ensures.inflated;
    }

pub loop-kind-init : goal.loop-kind-init
loop-kind-init c = grind (arith, common_steps)

pub loose_of_kind-requires-clause-kind_in : goal.loose_of_kind-requires-clause-kind_in
loose_of_kind-requires-clause-kind_in c = grind (arith, common_steps)

pub returns-in_err-loose_of_kind-clause-inflated : goal.returns-in_err-loose_of_kind-clause-inflated
returns-in_err-loose_of_kind-clause-inflated c = grind (arith, common_steps)

pub returns-in_err-push-clause-fault : goal.returns-in_err-push-clause-fault
returns-in_err-push-clause-fault c = grind (arith, common_steps)

pub returns-in_err-push-clause-inflated : goal.returns-in_err-push-clause-inflated
returns-in_err-push-clause-inflated c = grind (arith, common_steps)
