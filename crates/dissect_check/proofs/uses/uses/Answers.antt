use Rattle.std.proofs.Common.{arith, length}
use Rattle.theory_addresses.specs.Search.{unless}
use Rattle.theory_edge_to_edge.specs.Uses.{is_used}
use Rattle.rule_model.specs.Views.{rule_of}
use Rattle.dissect_check.specs.declared.check_fault.CheckFault.TheVariants.{Unused}
use Rattle.theory_addresses.proofs.Searches.{first_below-stop}
use Rattle.dissect_check.proofs.uses.uses.Goals as goal

pub returns-then-not-is_used : goal.returns-then-not-is_used
returns-then-not-is_used c =
    let r = rule_of c.args.rule.now in
    first_below-stop (λ k. unless (is_used r k) (Unused k)) c.loop-kind.kind (length r.kinds)
    (Unused c.loop-kind.kind) c.loop-kind.invariant (grind arith)
    (omega (arith, c.kind_count-kind-end.ensures.numbers c.args.rule.now.order))
