use Rattle.std.proofs.Common.{◌≡◌, ℕ, map, not, length, get_or, ◌<◌, ◌∙◌, Some, None, sym, ap, arith}
use Rattle.std.proofs.lemmas.Grind.{common_steps}
use Rattle.theory_addresses.specs.Search.{unless}
use Rattle.theory_edge_to_edge.specs.Lying.{loose, lie_of, is_loose}
use Rattle.cyclo_points.specs.Order.{points_of}
use Rattle.rule_model.specs.declared.rule.Rule.{Rule}
use Rattle.rule_model.specs.Views.{as_rule, rule_of}
use Rattle.dissect_check.specs.declared.check_fault.CheckFault.TheVariants.{ChildEdgeLoose}
use Rattle.dissect_check.specs.declared.inflated.Inflated.{Inflated}
use Rattle.dissect_check.specs.declared.lie.Lie.{Lie}
use Rattle.dissect_check.specs.declared.placed_edge.PlacedEdge.{PlacedEdge}
use Rattle.dissect_check.specs.FirstFault.{loose_fault}
use Rattle.dissect_check.specs.Views.{edge_in, as_lie, IsInflated}
use Rattle.dissect_check.proofs.FirstLoose.{same_at, first_some-here, first_some-later, not_loose}
use Rattle.dissect_check.proofs.loose.loose_of_kind.Goals as goal

-- the lie of number i is that of the edge of number i
lie_at : (r : Rule) (k : ℕ) (p : Inflated) → IsInflated r k p → (i : ℕ) → i < length p.edges.items → (d : Lie) (e : PlacedEdge)
    → as_lie (get_or p.lies.items i d) ≡ lie_of (points_of r.order) (rule_of r) k (edge_in r.order (get_or p.edges.items i e))
lie_at r k p h i l d e =
    let lie = lie_of (points_of r.order) (rule_of r) k in
    same_at as_lie lie (edge_in r.order) p.lies.items p.edges.items i d e loose (h.lies ∙ ap (map lie) (sym h.edges)) l

pub returns-in-Loose-clause-fault : goal.returns-in-Loose-clause-fault
returns-in-Loose-clause-fault c =
    let r = c.args.rule.now in
    let k = c.args.kind in
    let p = c.in_ok-parent.parent in
    let i = c.loop-i.i in
    let x = c.index-edge.result.now in
    let lie = λ (s : PlacedEdge). lie_of (points_of r.order) (rule_of r) k (edge_in r.order s) in
    let below : i < length p.edges.items = omega arith in
    let at : loose ≡ lie x
    = ap as_lie (sym c.in-Loose.is ∙ c.index.ensures)
    ∙ lie_at r k p c.in_ok-parent.ensures i below c.index.result.now x
    ∙ ap lie (sym c.index-edge.ensures) in
    let fault : loose_fault r.order (as_rule r) k (edge_in r.order (get_or p.edges.items i x)) ≡ Some (ChildEdgeLoose k x.child x.edge)
    = ap (λ s. loose_fault r.order (as_rule r) k (edge_in r.order s)) (sym c.index-edge.ensures)
    ∙ ap (λ l. unless (not (is_loose l)) (ChildEdgeLoose k x.child x.edge)) (sym at) in
    sym c.loop-i.invariant ∙ first_some-here (loose_fault r.order (as_rule r) k) (edge_in r.order)
    p.edges.items i x (ChildEdgeLoose k x.child x.edge) below fault

pub loop-i-preserved : goal.loop-i-preserved
loop-i-preserved c =
    let r = c.args.rule.now in
    let k = c.args.kind in
    let p = c.in_ok-parent.parent in
    let i = c.loop-i.i in
    let lie = c.index.result.now in
    let below : i < length p.edges.items = omega arith in
    let none : (d : PlacedEdge) → loose_fault r.order (as_rule r) k (edge_in r.order (get_or p.edges.items i d)) ≡ None
    = λ d. let e = get_or p.edges.items i d in
    ap (λ l. unless (not (is_loose l)) (ChildEdgeLoose k e.child e.edge))
    (sym (lie_at r k p c.in_ok-parent.ensures i below lie d) ∙ ap as_lie (sym c.index.ensures))
    ∙ ap (λ b. unless (not b) (ChildEdgeLoose k e.child e.edge)) (not_loose lie c.in_default.not-Loose) in
    sym (first_some-later (loose_fault r.order (as_rule r) k) (edge_in r.order) p.edges.items i below none) ∙ c.loop-i.invariant

pub returns-clause-fault : goal.returns-clause-fault
returns-clause-fault c = grind (arith, common_steps)

pub returns-clause-inflated : goal.returns-clause-inflated
returns-clause-inflated c = grind (arith, common_steps)
