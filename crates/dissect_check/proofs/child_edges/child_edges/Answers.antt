use Rattle.std.proofs.Common.{[], ◌++◌, sym, ap, ◌∙◌}
use Rattle.std.specs.List.{flat_map}
use Rattle.std.proofs.lemmas.List.{flat_map_more}
use Rattle.theory_addresses.specs.Search.{below}
use Rattle.theory_edge_to_edge.specs.Edges.{edges_of_child}
use Rattle.cyclo_points.specs.Order.{points_of}
use Rattle.rule_model.specs.Views.{rule_of}
use Rattle.theory_addresses.proofs.Searches.{below-more}
use Rattle.dissect_check.proofs.child_edges.child_edges.Goals as goal

pub loop-child-preserved : goal.loop-child-preserved
loop-child-preserved c =
    let r = c.args.rule.now in
    let i = c.loop-child.child in
    let of_child = edges_of_child (points_of r.order) (rule_of r) c.args.kind in
    record {
      value =
          c.in_ok-add_child.ensures.value
          ∙ ap (λ xs. xs ++ of_child i) c.loop-child.invariant.value
          ∙ flat_map_more of_child [] (below (λ n. n) i) i
          ∙ ap (flat_map of_child) (sym (below-more (λ n. n) i));
      fit = c.in_ok-add_child.ensures.fit;
    }
