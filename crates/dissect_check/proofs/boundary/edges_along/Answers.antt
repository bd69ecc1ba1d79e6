use Rattle.std.proofs.Common.{◌≡◌, ℕ, ◌+◌, ◌≤◌, Bool, true, false, List, [], ◌∷◌, ◌++◌, map, length, take, sym, ap, ◌∙◌, arith}
use Rattle.std.specs.List.{filter}
use Rattle.std.proofs.lemmas.List.{map_push, length_push, take_all}
use Rattle.std.proofs.lemmas.List.Elements.{All-push, All-same}
use Rattle.std.proofs.lemmas.Slice.Zip.{zip_turn, zip_end}
use Rattle.theory_edge_to_edge.specs.Edges as theory
use Rattle.theory_edge_to_edge.specs.Edges.{child_edges, inflated_edges}
use Rattle.theory_edge_to_edge.specs.Lying.{lie_of, is_along}
use Rattle.cyclo_points.specs.Order.{NumberOf, points_of}
use Rattle.rule_model.specs.declared.rule.Rule.{Rule}
use Rattle.rule_model.specs.Views.{rule_of}
use Rattle.dissect_check.specs.declared.placed_edge.PlacedEdge.{PlacedEdge}
use Rattle.dissect_check.specs.declared.lie.Lie.{Lie}
use Rattle.dissect_check.specs.declared.inflated.Inflated.{Inflated}
use Rattle.dissect_check.specs.Views.{edge_in, as_lie, IsFit, IsInflated}
use Rattle.theory_addresses.proofs.Kept.{kept, left_out}
use Rattle.dissect_check.proofs.Lies.{IsAt, All-at, lie_at, length-lies}
use Rattle.dissect_check.proofs.boundary.edges_along.Goals as goal

module _ (r : Rule) (k : ℕ) (i : Inflated) (fact : IsInflated r k i) (e : ℕ) where
  is_on : theory.PlacedEdge (NumberOf r.order) → Bool
  is_on s = is_along e (lie_of (points_of r.order) (rule_of r) k s)

  is_on-at : (n : ℕ) (s : PlacedEdge) (l : Lie) (b : Bool) → IsAt i n s l → is_along e (as_lie l) ≡ b → is_on (edge_in r.order s) ≡ b
  unfolding is_on
  is_on-at n s l b at h = ap (is_along e) (sym (lie_at r k i fact n s l at.edge_there at.lie_there (at.edge s) (at.lie l))) ∙ h

  on : (n m : ℕ) (s : PlacedEdge) (l : Lie) (found new : List PlacedEdge) → IsAt i n s l → m ≡ n + 1 → is_along e (as_lie l) ≡ true
      → map (edge_in r.order) found ≡ filter is_on (map (edge_in r.order) (take n i.edges.items))
      → new ≡ found ++ s ∷ [] → map (edge_in r.order) new ≡ filter is_on (map (edge_in r.order) (take m i.edges.items))
  on n m s l found new at long h so_far e =
      ap (map (edge_in r.order)) e ∙ map_push (edge_in r.order) found s
      ∙ kept (edge_in r.order) is_on i.edges.items n s (map (edge_in r.order) found) at.edge_there (at.edge s) (is_on-at n s l true at h) so_far
      ∙ ap (λ k. filter is_on (map (edge_in r.order) (take k i.edges.items))) (sym long)

  off : (n m : ℕ) (s : PlacedEdge) (l : Lie) (found : List PlacedEdge) → IsAt i n s l → m ≡ n + 1 → is_along e (as_lie l) ≡ false
      → map (edge_in r.order) found ≡ filter is_on (map (edge_in r.order) (take n i.edges.items))
      → map (edge_in r.order) found ≡ filter is_on (map (edge_in r.order) (take m i.edges.items))
  off n m s l found at long h so_far =
      left_out (edge_in r.order) is_on i.edges.items n s (map (edge_in r.order) found) at.edge_there (at.edge s) (is_on-at n s l false at h) so_far
      ∙ ap (λ k. filter is_on (map (edge_in r.order) (take k i.edges.items))) (sym long)

pub loop-child_edge-preserved : goal.loop-child_edge-preserved
unfolding is_on
loop-child_edge-preserved c =
    let i = c.args.inflated.now in
    let t = zip_turn i.edges.items i.lies.items c.loop-child_edge.yielded
    c.into_iter-child_edge-iterator.result c.loop-child_edge.child_edge-iterator c.next.new.self
    c.next.result (cc) (cc) c.loop-child_edge.yielded_by (c.in-Some.child_edge, c.in-Some.lie)
    c.in-Some.is c.next.ensures.steps in
    let at : IsAt i (length c.loop-child_edge.yielded) c.in-Some.child_edge.now c.in-Some.lie.now = record
    { edge_there = t.0; lie_there = t.1; edge = t.2; lie = t.3 } in
    record {
      edges = λ r k fact.
          off r k i fact c.args.edge (length c.loop-child_edge.yielded) _ c.in-Some.child_edge.now
          c.in-Some.lie.now c.loop-child_edge.found.items at
          (length_push c.loop-child_edge.yielded (c.in-Some.child_edge, c.in-Some.lie))
          (sym c.is_on_edge.ensures ∙ c.if-is_on_edge.false) (c.loop-child_edge.invariant.edges r k fact);
      fit = c.loop-child_edge.invariant.fit;
    }

pub loop-child_edge-preserved-in-Continue-1 : goal.loop-child_edge-preserved-in-Continue-1
unfolding is_on
loop-child_edge-preserved-in-Continue-1 c =
    let i = c.args.inflated.now in
    let t = zip_turn i.edges.items i.lies.items c.loop-child_edge.yielded
    c.into_iter-child_edge-iterator.result c.loop-child_edge.child_edge-iterator c.next.new.self
    c.next.result (cc) (cc) c.loop-child_edge.yielded_by (c.in-Some.child_edge, c.in-Some.lie)
    c.in-Some.is c.next.ensures.steps in
    let at : IsAt i (length c.loop-child_edge.yielded) c.in-Some.child_edge.now c.in-Some.lie.now = record
    { edge_there = t.0; lie_there = t.1; edge = t.2; lie = t.3 } in
    let s = c.in-Some.child_edge.now in
    record {
      edges = λ r k fact.
          on r k i fact c.args.edge (length c.loop-child_edge.yielded) _ s c.in-Some.lie.now
          c.loop-child_edge.found.items _ at (length_push c.loop-child_edge.yielded
          (c.in-Some.child_edge, c.in-Some.lie))
          (sym c.is_on_edge.ensures ∙ c.if-is_on_edge.true) (c.loop-child_edge.invariant.edges r k fact) c.in_ok-push.ensures.items;
      fit = λ r k fact.
          All-same (IsFit r) _ (c.loop-child_edge.found.items ++ s ∷ []) c.in_ok-push.ensures.items
          (All-push (IsFit r) c.loop-child_edge.found.items s (c.loop-child_edge.invariant.fit r k fact)
          (All-at (IsFit r) i.edges.items (length c.loop-child_edge.yielded) s at.edge_there (at.edge s) fact.edges_fit));
    }

pub returns-clause-edges : goal.returns-clause-edges
unfolding is_on
returns-clause-edges c r k fact =
    let i = c.args.inflated.now in
    let all = zip_end i.edges.items i.lies.items c.loop-child_edge.yielded
    c.into_iter-child_edge-iterator.result c.loop-child_edge.child_edge-iterator c.next.new.self
    c.next.result (cc) (cc) c.loop-child_edge.yielded_by c.in-None.is c.next.ensures.steps in
    let long : length i.edges.items ≤ length c.loop-child_edge.yielded = omega (arith, length-lies r k i fact) in
    c.loop-child_edge.invariant.edges r k fact
    ∙ ap (λ xs. filter (is_on r k i fact c.args.edge) (map (edge_in r.order) xs))
    (take_all (length c.loop-child_edge.yielded) i.edges.items long)
    ∙ ap (filter (is_on r k i fact c.args.edge)) fact.edges
