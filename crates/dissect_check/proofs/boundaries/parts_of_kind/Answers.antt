use Rattle.std.specs.Prelude.{Vec}
use Rattle.std.specs.Global.{Global}
use Rattle.std.proofs.Common.{◌<◌, [], ◌∷◌, ◌++◌, map, sym, ap, ap₂, subst, ◌∙◌}
use Rattle.std.proofs.lemmas.List.{map_push}
use Rattle.std.proofs.lemmas.List.Elements.{All-push, All-same}
use Rattle.std.proofs.lemmas.Result.{err_from_is_err_and}
use Rattle.theory_substitution.specs.RuleParts.{edge_count}
use Rattle.theory_edge_to_edge.specs.Boundary.{parts_of_edge}
use Rattle.theory_edge_to_edge.specs.Contacts.{named_parts}
use Rattle.cyclo_points.specs.Order.{points_of}
use Rattle.edge_tables.specs.declared.child_edge.ChildEdge.{ChildEdge}
use Rattle.edge_tables.specs.Views.{as_child_edge}
use Rattle.rule_model.specs.Views.{rule_of}
use Rattle.dissect_check.specs.FirstFault.{part_fault}
use Rattle.dissect_check.specs.Parts.{AreFew}
use Rattle.theory_addresses.proofs.Searches.{first_below-step, below-more}
use Rattle.dissect_check.proofs.Agreeing.{agrees_below}
use Rattle.dissect_check.proofs.boundaries.parts_of_kind.Goals as goal

pub returns-in_err-parts_of_edge-clause-fault : goal.returns-in_err-parts_of_edge-clause-fault
returns-in_err-parts_of_edge-clause-fault c =
    let r = c.args.rule.now in
    let p = err_from_is_err_and c.from_residual-in_err-parts_of_edge.result c.from_residual-in_err-parts_of_edge.ensures.1 in
    rw (p.1, p.2)
    (agrees_below (Vec (Vec ChildEdge Global) Global) c.in_err-parts_of_edge.field-0.0
    (λ e. part_fault c.args.kind e (parts_of_edge (points_of r.order) (rule_of r) c.args.kind e))
    c.loop-edge.edge (edge_count (rule_of r) c.args.kind)
    c.loop-edge.invariant.no_fault (subst (λ n. c.loop-edge.edge < n)
    (c.edge_count-edge-end.ensures.numbers r.order) c.loop-edge-test.true)
    c.in_err-parts_of_edge.ensures.fault)

pub loop-edge-preserved : goal.loop-edge-preserved
loop-edge-preserved c =
    let r = c.args.rule.now in
    let P = points_of r.order in
    let found = c.in_ok-parts_of_edge.field-0 in
    let more = c.in_ok-push.ensures.items in
    record {
      no_fault = first_below-step (λ e. part_fault c.args.kind e (parts_of_edge P (rule_of r) c.args.kind e))
          c.loop-edge.edge c.loop-edge.invariant.no_fault c.in_ok-parts_of_edge.ensures.fault;
      names =
          ap (map (λ v. map as_child_edge v.items)) more
          ∙ map_push (λ (v : Vec ChildEdge Global). map as_child_edge v.items) c.loop-edge.parts.items found
          ∙ ap₂ (λ xs x. xs ++ x ∷ []) c.loop-edge.invariant.names c.in_ok-parts_of_edge.ensures.parts
          ∙ sym (below-more (named_parts P (rule_of r) c.args.kind) c.loop-edge.edge);
      few = All-same AreFew c.push.new.self.items (c.loop-edge.parts.items ++ found ∷ []) more
          (All-push AreFew c.loop-edge.parts.items found c.loop-edge.invariant.few
          c.in_ok-parts_of_edge.ensures.few);
    }
