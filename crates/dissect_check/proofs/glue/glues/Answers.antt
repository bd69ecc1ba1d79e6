use Rattle.std.proofs.Common.{length, Some, arith, ap, ◌∙◌}
use Rattle.theory_addresses.specs.Search.{unless}
use Rattle.theory_edge_to_edge.specs.Glue.{glue_type, glues_halves}
use Rattle.rule_model.specs.Views.{rule_of}
use Rattle.dissect_check.specs.declared.check_fault.CheckFault.TheVariants.{GlueWrong}
use Rattle.theory_addresses.proofs.Searches.{first_below-stop}
use Rattle.dissect_check.proofs.glue.glues.Goals as goal

pub returns-then-not-glues_halves : goal.returns-then-not-glues_halves
returns-then-not-glues_halves c =
    let o = c.args.rule.now.order in
    let r = rule_of c.args.rule.now in
    let i = c.loop-i.i in
    ap (λ ty. Some (GlueWrong ty)) (c.glue_type.ensures.numbers o)
    ∙ first_below-stop (λ n. unless (glues_halves r n) (GlueWrong (glue_type r n))) i (length r.glue) (GlueWrong (glue_type r i)) c.loop-i.invariant
    (grind arith) (omega (arith, c.glue_count-i-end.ensures.numbers o))
