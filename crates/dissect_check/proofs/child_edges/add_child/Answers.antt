use Rattle.std.proofs.Common.{[], ◌∷◌, ◌++◌, map, sym, ap, ap₂, ◌∙◌}
use Rattle.std.proofs.lemmas.List.{map_push, append_assoc}
use Rattle.std.proofs.lemmas.List.Elements.{All-push, All-same}
use Rattle.theory_addresses.specs.Search.{below}
use Rattle.theory_edge_to_edge.specs.Edges.{child_edge}
use Rattle.cyclo_points.specs.Order.{points_of}
use Rattle.rule_model.specs.Views.{rule_of}
use Rattle.dissect_check.specs.Views.{edge_in, IsFit}
use Rattle.theory_addresses.proofs.Searches.{below-more}
use Rattle.dissect_check.proofs.child_edges.add_child.Goals as goal

pub loop-edge-preserved : goal.loop-edge-preserved
loop-edge-preserved c =
    let r = c.args.rule.now in
    let view = edge_in r.order in
    let edge = child_edge (points_of r.order) (rule_of r) c.args.kind c.args.child in
    let before = map view c.args.edges.now.items in
    record {
      value =
          ap (map view) c.in_ok-push.ensures.items ∙ map_push view c.loop-edge.edges.items c.child_edge.result
          ∙ ap₂ (λ xs y. xs ++ y ∷ []) c.loop-edge.invariant.value c.child_edge.ensures.value
          ∙ append_assoc before (below edge c.loop-edge.edge) (edge c.loop-edge.edge ∷ [])
          ∙ ap (λ xs. before ++ xs) (sym (below-more edge c.loop-edge.edge));
      fit =
          All-same (IsFit r) c.push.new.self.items (c.loop-edge.edges.items ++ c.child_edge.result ∷ []) c.in_ok-push.ensures.items
          (All-push (IsFit r) c.loop-edge.edges.items c.child_edge.result c.loop-edge.invariant.fit c.child_edge.ensures.fit);
    }
