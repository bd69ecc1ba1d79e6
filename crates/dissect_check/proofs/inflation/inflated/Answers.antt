use Rattle.std.proofs.Common.{List, sym, subst}
use Rattle.dissect_check.specs.declared.line.Line.{Line}
use Rattle.dissect_check.specs.declared.placed_edge.PlacedEdge.{PlacedEdge}
use Rattle.dissect_check.specs.Views.{AreEdges}
use Rattle.dissect_check.proofs.WholeCount.{at_most_12_wholes}
use Rattle.dissect_check.proofs.inflation.inflated.Goals as goal

pub all_lies-requires-clause-edges : goal.all_lies-requires-clause-edges
all_lies-requires-clause-edges c =
    let r = c.args.rule.now in
    subst (λ (ws : List Line). AreEdges r c.deref.result.now ws) (sym c.deref-2.ensures.value)
    (subst (λ (es : List PlacedEdge). AreEdges r es c.in_ok-wholes.wholes.items) (sym c.deref.ensures.value)
    (record {
      edges_fit = c.in_ok-edges.ensures.fit;
      at_most_12 = at_most_12_wholes r c.args.kind c.in_ok-wholes.wholes.items c.in_ok-wholes.ensures.value c.requires.usable c.requires.kind_in;
      wholes_small = c.in_ok-wholes.ensures.small;
    }))
