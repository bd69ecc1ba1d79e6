use Rattle.std.proofs.Common.{◌<◌, ℕ, IfSome, length, ap, ◌∙◌, subst, arith}
use Rattle.std.proofs.lemmas.List.{length-set}
use Rattle.rule_model.specs.Glue.{IsGlueEdge, IsOnlyGlueEdge}
use Rattle.rule_model.specs.Views.{rule_of, rule_in}
use Rattle.rule_model.specs.declared.rule.Rule.{Rule}
use Rattle.tile_app.proofs.GluedKinds.{found, one-more}
use Rattle.tile_app.proofs.glue_edges.GlueEdges.new.Goals as goal

pub loop-kind-preserved : goal.loop-kind-preserved
loop-kind-preserved c =
    let m = c.args.machine.now in
    let n = c.loop-kind.kind in
    let same = c.checked-checked.ensures.rule in
    let count = c.kind_count-kind-end.ensures.numbers m.order
    ∙ ap (λ (r : Rule). length (rule_in m.order r).kinds) (c.rule.ensures.rule ∙ same) in
    let inside : n < length c.loop-kind.edges = omega
    (arith, c.loop-kind.invariant.room, count, c.loop-kind-test.true, c.checked-checked.ensures.usable.numbered.at_most_16_kinds) in
    record {
      room = length-set c.loop-kind.edges n c.unwrap_or.result ∙ c.loop-kind.invariant.room;
      first = one-more (rule_of m) n c.loop-kind.edges c.unwrap_or.result inside c.loop-kind.invariant.first
          (λ e is. c.unwrap_or.ensures ∙ found (rule_of m) n c.glue_edge.result
          (λ none. subst (λ (r : Rule). (f : ℕ) → ¬ IsGlueEdge (rule_of r) n f) same (c.glue_edge.ensures.none.0 none))
          (subst (λ (r : Rule). IfSome c.glue_edge.result (IsOnlyGlueEdge (rule_of r) n)) same c.glue_edge.ensures.only) e is);
    }

pub returns : goal.returns
returns c = λ kind edge none exists is.
    let m = c.args.machine.now in
    let count = c.kind_count-kind-end.ensures.numbers m.order
    ∙ ap (λ (r : Rule). length (rule_in m.order r).kinds) (c.rule.ensures.rule ∙ c.checked-checked.ensures.rule) in
    c.loop-kind.invariant.first kind edge none (omega (arith, exists, count, c.loop-kind-test.false)) is
