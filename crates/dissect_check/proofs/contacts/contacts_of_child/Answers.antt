use Rattle.std.proofs.Common.{◌≡◌, ℕ, ◌+◌, ◌≤◌, true, false, List, [], ◌∷◌, ◌++◌, map, length, take, nat_eq, refl, sym, ap, ◌∙◌, arith, eq-eqb}
use Rattle.std.specs.List.{filter}
use Rattle.std.proofs.lemmas.Bool.{ne_eqb}
use Rattle.std.proofs.lemmas.List.{map_push, length_push, take_all}
use Rattle.std.proofs.lemmas.Slice.Zip.{zip_turn, zip_end}
use Rattle.theory_edge_to_edge.specs.Edges as theory
use Rattle.theory_edge_to_edge.specs.Lying.{lie_of}
use Rattle.theory_addresses.specs.Contact as theory_contact
use Rattle.theory_edge_to_edge.specs.Contacts.{edge_name, contact_by}
use Rattle.cyclo_points.specs.Order.{NumberOf, points_of}
use Rattle.edge_tables.specs.declared.contact.Contact.{Contact}
use Rattle.edge_tables.specs.Views.{as_contact}
use Rattle.rule_model.specs.declared.rule.Rule.{Rule}
use Rattle.rule_model.specs.Views.{rule_of}
use Rattle.dissect_check.specs.declared.placed_edge.PlacedEdge.{PlacedEdge}
use Rattle.dissect_check.specs.declared.lie.Lie.{Lie}
use Rattle.dissect_check.specs.declared.inflated.Inflated.{Inflated}
use Rattle.dissect_check.specs.Views.{edge_in, as_lie, IsInflated}
use Rattle.theory_addresses.proofs.Kept.{kept, left_out}
use Rattle.dissect_check.proofs.Lies.{IsAt, lie_at, length-lies}
use Rattle.dissect_check.proofs.OwnEdges.{is_of_child, own_edges}
use Rattle.dissect_check.proofs.contacts.contacts_of_child.Goals as goal

module _ (r : Rule) (k : ℕ) (i : Inflated) (fact : IsInflated r k i) (child : ℕ) where
  -- what an edge is
  abbrev what : theory.PlacedEdge (NumberOf r.order) → theory_contact.Contact
  what s = contact_by (points_of r.order) (rule_of r) k (edge_name s) (lie_of (points_of r.order) (rule_of r) k s)

  abbrev own : List PlacedEdge → List (theory.PlacedEdge (NumberOf r.order))
  own edges = filter (is_of_child (points_of r.order) (rule_of r) k child) (map (edge_in r.order) edges)

  more : (n m : ℕ) (s : PlacedEdge) (l : Lie) (x : Contact) (contacts new : List Contact) → IsAt i n s l → m ≡ n + 1 → nat_eq s.child child ≡ true
      → as_contact x ≡ contact_by (points_of r.order) (rule_of r) k (edge_name (edge_in r.order s)) (as_lie l)
      → map as_contact contacts ≡ map what (own (take n i.edges.items)) → new ≡ contacts ++ x ∷ []
      → map as_contact new ≡ map what (own (take m i.edges.items))
  more n m s l x contacts new at long h is so_far e =
      ap (map as_contact) e ∙ map_push as_contact contacts x
      ∙ ap (λ y. map as_contact contacts ++ y ∷ [])
      (is ∙ ap (contact_by (points_of r.order) (rule_of r) k (edge_name (edge_in r.order s)))
      (lie_at r k i fact n s l at.edge_there at.lie_there (at.edge s) (at.lie l)))
      ∙ ap (λ ys. ys ++ what (edge_in r.order s) ∷ []) so_far
      ∙ sym (map_push what (own (take n i.edges.items)) (edge_in r.order s))
      ∙ ap (map what) (kept (edge_in r.order) (is_of_child (points_of r.order) (rule_of r) k child)
      i.edges.items n s (own (take n i.edges.items)) at.edge_there (at.edge s) h refl)
      ∙ ap (λ j. map what (own (take j i.edges.items))) (sym long)

  same : (n m : ℕ) (s : PlacedEdge) (l : Lie) (contacts : List Contact) → IsAt i n s l → m ≡ n + 1 → nat_eq s.child child ≡ false
      → map as_contact contacts ≡ map what (own (take n i.edges.items)) → map as_contact contacts ≡ map what (own (take m i.edges.items))
  same n m s l contacts at long h so_far =
      so_far
      ∙ ap (map what) (left_out (edge_in r.order) (is_of_child (points_of r.order) (rule_of r) k child)
      i.edges.items n s (own (take n i.edges.items)) at.edge_there (at.edge s) h refl)
      ∙ ap (λ j. map what (own (take j i.edges.items))) (sym long)

pub loop-edge-preserved : goal.loop-edge-preserved
loop-edge-preserved c =
    let i = c.args.inflated.now in
    let t = zip_turn i.edges.items i.lies.items c.loop-edge.yielded c.into_iter-edge-iterator.result
    c.loop-edge.edge-iterator c.next.new.self c.next.result (cc) (cc) c.loop-edge.yielded_by
    (c.in-Some.edge, c.in-Some.lie) c.in-Some.is c.next.ensures.steps in
    let at : IsAt i (length c.loop-edge.yielded) c.in-Some.edge.now c.in-Some.lie.now = record
    { edge_there = t.0; lie_there = t.1; edge = t.2; lie = t.3 } in
    λ r k fact parts. same r k i fact c.args.child (length c.loop-edge.yielded) _ c.in-Some.edge.now
    c.in-Some.lie.now c.loop-edge.contacts.items at
    (length_push c.loop-edge.yielded (c.in-Some.edge, c.in-Some.lie))
    (ne_eqb _ _ (λ e. c.if-from-child.false (c.from.ensures ∙ e))) (c.loop-edge.invariant r k fact parts)

pub loop-edge-preserved-in-Continue-1 : goal.loop-edge-preserved-in-Continue-1
loop-edge-preserved-in-Continue-1 c =
    let i = c.args.inflated.now in
    let t = zip_turn i.edges.items i.lies.items c.loop-edge.yielded c.into_iter-edge-iterator.result
    c.loop-edge.edge-iterator c.next.new.self c.next.result (cc) (cc) c.loop-edge.yielded_by
    (c.in-Some.edge, c.in-Some.lie) c.in-Some.is c.next.ensures.steps in
    let at : IsAt i (length c.loop-edge.yielded) c.in-Some.edge.now c.in-Some.lie.now = record
    { edge_there = t.0; lie_there = t.1; edge = t.2; lie = t.3 } in
    let l = c.in-Some.lie.now in
    λ r k fact parts. more r k i fact c.args.child (length c.loop-edge.yielded) _ c.in-Some.edge.now l
    c.contact_at.result c.loop-edge.contacts.items _ at
    (length_push c.loop-edge.yielded (c.in-Some.edge, c.in-Some.lie))
    (eq-eqb _ _ (sym c.from.ensures ∙ c.if-from-child.true))
    (c.contact_at.ensures r k parts ∙ ap (λ s. contact_by (points_of r.order) (rule_of r) k s (as_lie l)) (c.name.ensures r.order))
    (c.loop-edge.invariant r k fact parts) c.in_ok-push.ensures.items

pub returns : goal.returns
returns c =
    let i = c.args.inflated.now in
    let all = zip_end i.edges.items i.lies.items c.loop-edge.yielded c.into_iter-edge-iterator.result
    c.loop-edge.edge-iterator c.next.new.self c.next.result (cc) (cc) c.loop-edge.yielded_by c.in-None.is
    c.next.ensures.steps in
    λ r k fact parts there.
    let long : length i.edges.items ≤ length c.loop-edge.yielded = omega (arith, length-lies r k i fact) in
    c.loop-edge.invariant r k fact parts
    ∙ ap (λ xs. map (what r k i fact c.args.child) (own r k i fact c.args.child xs)) (take_all (length c.loop-edge.yielded) i.edges.items long)
    ∙ ap (λ xs. map (what r k i fact c.args.child) (filter (is_of_child (points_of r.order) (rule_of r) k c.args.child) xs)) fact.edges
    ∙ ap (map (what r k i fact c.args.child)) (own_edges (points_of r.order) (rule_of r) k c.args.child there)
