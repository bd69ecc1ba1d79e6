use Rattle.std.proofs.Common.{◌≡◌, ◌<◌, length, arith, sym, ap, ◌∙◌, subst}
use Rattle.theory_substitution.specs.RuleParts.{edge_types}
use Rattle.rule_model.specs.Views.{rule_of}
use Rattle.dissect_check.specs.Few.{one_more}
use Rattle.dissect_check.proofs.Holders.{holders_below, one_more_edge, no_more_edge, one-below}
use Rattle.dissect_check.proofs.glue.holders.Goals as goal
use Rattle.dissect_check.proofs.glue.holders.Goals.{then-edge_type-ty, else-edge_type-ty}

pub loop-edge-preserved : goal.loop-edge-preserved
loop-edge-preserved c =
    let o = c.args.rule.now.order in
    let r = rule_of c.args.rule.now in
    let k = c.loop-kind.kind in
    let e = c.loop-edge.edge in
    let front = holders_below r c.args.ty k in
    let l : e < length (edge_types r k) = omega (arith, c.edge_count-edge-end.ensures.numbers o) in
    elim c.if-edge_type-ty.branch [
      | then-edge_type-ty w ↦
          w.found-is ∙ w.more-found.ensures ∙ ap (λ f. one_more f k) c.loop-edge.invariant
          ∙ one_more_edge k c.args.ty front (edge_types r k) e l (sym (c.edge_type.ensures.numbers o) ∙ w.if-edge_type-ty.true)
      | else-edge_type-ty w ↦
          w.found-is ∙ c.loop-edge.invariant
          ∙ no_more_edge k c.args.ty front (edge_types r k) e l (λ h. w.if-edge_type-ty.false (c.edge_type.ensures.numbers o ∙ h))
    ]

pub returns-clause-kind_exists : goal.returns-clause-kind_exists
returns-clause-kind_exists c = λ k h.
    let o = c.args.rule.now.order in
    let r = rule_of c.args.rule.now in
    let at_end : c.loop-kind.kind ≡ length r.kinds = omega (arith, c.kind_count-kind-end.ensures.numbers o) in
    subst (λ n. k < n) at_end (one-below r c.args.ty c.loop-kind.kind k (sym c.loop-kind.invariant ∙ h))
