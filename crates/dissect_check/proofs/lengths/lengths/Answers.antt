use Rattle.std.proofs.Common.{length, arith, sym}
use Rattle.theory_addresses.specs.Search.{unless}
use Rattle.theory_substitution.specs.RuleParts.{edge_count}
use Rattle.theory_edge_to_edge.specs.EdgeTypes.{has_length_of_type}
use Rattle.cyclo_points.specs.Order.{points_of}
use Rattle.rule_model.specs.Views.{as_rule, rule_of}
use Rattle.dissect_check.specs.declared.check_fault.CheckFault.TheVariants.{BadLength}
use Rattle.dissect_check.specs.FirstFault.{lengths_of_kind}
use Rattle.theory_addresses.proofs.Searches.{first_below-stop}
use Rattle.dissect_check.proofs.lengths.lengths.Goals as goal

pub returns-then-not-has_length_of_type : goal.returns-then-not-has_length_of_type
returns-then-not-has_length_of_type c =
    let o = c.args.rule.now.order in
    let r = rule_of c.args.rule.now in
    let k = c.loop-kind.kind in
    let e = c.loop-edge.edge in
    let in_kind = first_below-stop (λ n. unless (has_length_of_type (points_of o) r k n) (BadLength k n)) e
    (edge_count r k) (BadLength k e) c.loop-edge.invariant
    (grind arith) (omega (arith, c.edge_count-edge-end.ensures.numbers o)) in
    first_below-stop (lengths_of_kind o (as_rule c.args.rule.now)) k (length r.kinds) (BadLength k e)
    c.loop-kind.invariant (sym in_kind) (omega (arith, c.kind_count-kind-end.ensures.numbers o))
