use Rattle.std.proofs.Common.{arith, length, sym, ap, ◌∙◌}
use Rattle.theory_substitution.specs.RuleParts.{vertices_of}
use Rattle.theory_addresses.specs.Search.{unless}
use Rattle.theory_edge_to_edge.specs.Star.{is_star}
use Rattle.cyclo_points.specs.Order.{points_of}
use Rattle.rule_model.specs.Views.{rule_of}
use Rattle.dissect_check.specs.declared.check_fault.CheckFault.TheVariants.{NotStar}
use Rattle.theory_addresses.proofs.Searches.{first_below-stop, first_below-step}
use Rattle.dissect_check.proofs.stars.stars.Goals as goal

pub returns-then-not-is_star : goal.returns-then-not-is_star
returns-then-not-is_star c =
    let o = c.args.rule.now.order in
    let r = rule_of c.args.rule.now in
    let k = c.loop-kind.kind in
    first_below-stop (λ n. unless (is_star (points_of o) (vertices_of r n)) (NotStar n)) k (length r.kinds) (NotStar k) c.loop-kind.invariant
    (ap (λ b. unless b (NotStar k)) (sym c.is_star.ensures ∙ c.if-not-is_star.true)) (omega (arith, c.kind_count-kind-end.ensures.numbers o))

pub loop-kind-preserved : goal.loop-kind-preserved
loop-kind-preserved c =
    let o = c.args.rule.now.order in
    let r = rule_of c.args.rule.now in
    let k = c.loop-kind.kind in
    first_below-step (λ n. unless (is_star (points_of o) (vertices_of r n)) (NotStar n)) k c.loop-kind.invariant
    (ap (λ b. unless b (NotStar k)) (sym c.is_star.ensures ∙ c.if-not-is_star.false))
