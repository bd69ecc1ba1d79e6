use Rattle.std.proofs.Common.{◌||◌, ◌<◌, inl, inr, length, sym, ap, ◌∙◌, subst}
use Rattle.std.specs.Prelude.{nat_eq}
use Rattle.theory_substitution.specs.RuleParts.{mate}
use Rattle.theory_edge_to_edge.specs.Glue.{glue_type}
use Rattle.rule_model.specs.Views.{rule_of}
use Rattle.rule_model.proofs.Glue.{either}
use Rattle.theory_addresses.proofs.BoolLoops.{some_below-found}
use Rattle.rule_model.proofs.rule.Rule.is_glued.Goals as goal
use Rattle.rule_model.proofs.rule.Rule.is_glued.Goals.{then-ty-glue-via-then-ty-glue, then-ty-glue-via-else-ty-glue+then-ty-mate}

pub returns-then-ty-glue : goal.returns-then-ty-glue
returns-then-ty-glue c =
    let r = rule_of c.args.self.now in
    let i = c.loop-i.i in
    let glue = c.glue_type-glue.ensures.lists in
    let below = subst (λ n. i < n) c.glue_count-i-end.ensures.lists c.loop-i-test.true in
    sym (some_below-found (λ i. nat_eq c.args.ty (glue_type r i) || nat_eq c.args.ty (mate r (glue_type r i))) i (length r.glue)
    (either (glue_type r i) (mate r (glue_type r i)) c.args.ty (elim c.then-ty-glue.branch [
      | then-ty-glue-via-then-ty-glue w ↦ inl (w.if-ty-glue.true ∙ glue)
      | then-ty-glue-via-else-ty-glue+then-ty-mate w ↦ inr (w.if-ty-mate.true ∙ w.mate.ensures.lists ∙ ap (mate r) glue)
    ])) below)
