use Rattle.std.proofs.Common.{[], ◌∷◌, ◌++◌, map, sym, ap, ap₂, ◌∙◌}
use Rattle.std.proofs.lemmas.List.{map_push}
use Rattle.std.proofs.lemmas.List.Elements.{All-push, All-same}
use Rattle.theory_edge_to_edge.specs.Edges.{inflated_edge}
use Rattle.cyclo_points.specs.Order.{points_of}
use Rattle.rule_model.specs.Views.{rule_of}
use Rattle.dissect_check.specs.Views.{line_in, IsSmallLine}
use Rattle.theory_addresses.proofs.Searches.{below-more}
use Rattle.dissect_check.proofs.wholes.inflated_edges.Goals as goal

pub loop-edge-preserved : goal.loop-edge-preserved
loop-edge-preserved c =
    let o = c.args.rule.now.order in
    record {
      value =
          ap (map (line_in o)) c.in_ok-push.ensures.items ∙ map_push (line_in o) c.loop-edge.lines.items c.inflated_edge.result
          ∙ ap₂ (λ xs y. xs ++ y ∷ []) c.loop-edge.invariant.value c.inflated_edge.ensures.value
          ∙ sym (below-more (inflated_edge (points_of o) (rule_of c.args.rule.now) c.args.kind) c.loop-edge.edge);
      small =
          All-same (IsSmallLine o) c.push.new.self.items (c.loop-edge.lines.items ++ c.inflated_edge.result ∷ []) c.in_ok-push.ensures.items
          (All-push (IsSmallLine o) c.loop-edge.lines.items c.inflated_edge.result c.loop-edge.invariant.small c.inflated_edge.ensures.small);
    }
