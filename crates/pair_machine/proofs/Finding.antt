-- The search for nodes, over plain variables.
use Rattle.std.proofs.Common.{◌≡◌, inl, inr, ℕ, ◌+◌, [], ◌∷◌, ◌++◌, length, Option, Some, None, IsSome, refl, sym, ap, ◌∙◌, subst, arith}
use Rattle.std.proofs.lemmas.List.{append-nil}
use Rattle.theory_addresses.specs.Contact.{Contact, ChildEdge, inner, outer}
use Rattle.theory_addresses.specs.Search.{below, IsAmong}
use Rattle.theory_addresses.specs.Tables.{Tables, kind_tables, child_kind_of, contact_of, contacts_of, part_count}
use Rattle.theory_addresses.specs.Coherent.{IsCoherent}
use Rattle.theory_addresses.proofs.Lists.{IsAmong-flat_map}
use Rattle.theory_addresses.proofs.Ranges.{among-flat_map, IsAmong-below}
use Rattle.theory_addresses.proofs.TableBounds.{type_bounds, contact_bounds}
use Rattle.theory_addresses.proofs.Mated.{IsMated, inner_mated, same_parts, across_part}
use Rattle.pair_machine.specs.Nodes.{Node, RowPair, IsNode, IsOfChildren, first, further, row_of}
use Rattle.pair_machine.specs.Numbers.{width_of, AreNumbersSmall}
use Rattle.pair_machine.specs.Searching.{of_both, children_node, contact_node, child_nodes, kind_nodes, first_nodes, row_nodes}
use Rattle.pair_machine.proofs.LeftOfRows.{row-among, edge_there}
use Rattle.pair_machine.proofs.Levels.{child_of}
use Rattle.pair_machine.proofs.NodeLoops.{child_nodes-more}

-- ---- which they are
of_both-among : (o : Option ℕ) (e : ℕ) (u : Option ℕ) (f : ℕ) (n : Node) → IsAmong n (of_both o e u f)
    → (o ≡ Some n.kind) × (n.edge ≡ e) × (u ≡ Some n.other) × (n.back ≡ f)
of_both-among None e u f n i = elim i [ ]
of_both-among (Some k) e None f n i = elim i [ ]
of_both-among (Some k) e (Some l) f n (inl is) =
    (ap (λ (m : Node). Some m.kind) (sym is), ap (λ (m : Node). m.edge) is, ap (λ (m : Node). Some m.other) (sym is), ap (λ (m : Node). m.back) is)
of_both-among (Some k) e (Some l) f n (inr i) = elim i [ ]

pub children-among : (t : Tables) (k : ℕ) (x : ChildEdge) (l : ℕ) (y : ChildEdge) (n : Node)
    → IsAmong n (children_node t k x l y) → IsOfChildren t k x l y n
children-among t k x l y n i =
    let r = of_both-among (child_kind_of t k x.child) x.edge (child_kind_of t l y.child) y.edge n i in
    record { kind = r.0; edge = r.1; other = r.2; back = r.3 }

pub among-children : (t : Tables) (k : ℕ) (x : ChildEdge) (l : ℕ) (y : ChildEdge) (n : Node)
    → IsOfChildren t k x l y n → IsAmong n (children_node t k x l y)
among-children t k x l y n h = rw (h.kind, h.other) (inl (λ i. record { kind = n.kind; edge = h.edge i; other = n.other; back = h.back i }))

contact-among : (t : Tables) (k a e : ℕ) (n : Node) → IsAmong n (contact_node t k a e (contact_of t k a e)) → IsNode t n
contact-among t k a e n i = by_case (contact_of t k a e) refl i
  where
    by_case : (o : Option Contact) → contact_of t k a e ≡ o → IsAmong n (contact_node t k a e o) → IsNode t n
    by_case None is i = elim i [ ]
    by_case (Some (inner b f)) is i = first k a e b f is (children-among t k (record { child = a; edge = e }) k (record { child = b; edge = f }) n i)
    by_case (Some (outer f p)) is i = elim i [ ]

pub first-node : (t : Tables) (size : ℕ) (n : Node) → IsAmong n (first_nodes t size) → IsNode t n
unfolding first_nodes kind_nodes child_nodes
first-node t size n i =
    let a = among-flat_map (λ k. kind_nodes t k (length (kind_tables t k).children)) n (below (λ k. k) size) i in
    let b = among-flat_map (λ c. child_nodes t a.piece c (length (contacts_of t a.piece c))) n
    (below (λ c. c) (length (kind_tables t a.piece).children)) a.inside in
    let c = among-flat_map (λ e. contact_node t a.piece b.piece e (contact_of t a.piece b.piece e)) n
    (below (λ e. e) (length (contacts_of t a.piece b.piece))) b.inside in
    contact-among t a.piece b.piece c.piece n c.inside

pub node-first : (t : Tables) (n : Node) (k a e b f : ℕ) → IsCoherent t
    → contact_of t k a e ≡ Some (inner b f) → IsOfChildren t k (record { child = a; edge = e }) k
    (record { child = b; edge = f }) n
    → IsAmong n (first_nodes t (length t.kinds))
unfolding first_nodes kind_nodes child_nodes
node-first t n k a e b f coherent met of =
    let bounds = contact_bounds t k a e (rw met refl) in
    let here : IsAmong n (contact_node t k a e (contact_of t k a e)) = rw met
    (among-children t k (record { child = a; edge = e }) k (record { child = b; edge = f }) n of) in
    let in_child : IsAmong n (child_nodes t k a (length (contacts_of t k a))) =
    IsAmong-flat_map (λ e. contact_node t k a e (contact_of t k a e)) e n
    (below (λ e. e) (length (contacts_of t k a)))
    (IsAmong-below (λ e. e) (length (contacts_of t k a)) e bounds.2) here in
    let in_kind : IsAmong n (kind_nodes t k (length (kind_tables t k).children)) =
    IsAmong-flat_map (λ a. child_nodes t k a (length (contacts_of t k a))) a n (below (λ a. a) (length (kind_tables t k).children))
    (IsAmong-below (λ a. a) (length (kind_tables t k).children) a (omega (arith, bounds.1, coherent.contacts_each k))) in_child in
    IsAmong-flat_map (λ k. kind_nodes t k (length (kind_tables t k).children)) k n
    (below (λ k. k) (length t.kinds)) (IsAmong-below (λ k. k) (length t.kinds) k bounds.0) in_kind

pub row-node : (t : Tables) (m n : Node) → IsNode t m → IsAmong n (row_nodes t m (row_of t m)) → IsNode t n
unfolding row_nodes
row-node t m n node i =
    let r = among-flat_map (λ (r : RowPair). children_node t m.kind r.mine m.other r.theirs) n (row_of t m) i in
    further m r.piece node r.among (children-among t m.kind r.piece.mine m.other r.piece.theirs n r.inside)

pub node-row : (t : Tables) (m n : Node) (pair : RowPair) → IsAmong pair (row_of t m)
    → IsOfChildren t m.kind pair.mine m.other pair.theirs n → IsAmong n (row_nodes t m (row_of t m))
unfolding row_nodes
node-row t m n pair i of = IsAmong-flat_map (λ (r : RowPair). children_node t m.kind r.mine m.other r.theirs)
    pair n (row_of t m) i (among-children t m.kind pair.mine m.other pair.theirs n of)

-- ---- nodes have mated edges
pub node_mated : (t : Tables) (n : Node) → IsCoherent t → IsNode t n → IsMated t n.kind n.edge n.other n.back
node_mated t n coherent (first k a e b f met of) =
    let edge = edge_there t k a n.kind e coherent of.kind (rw met refl) in
    let m = inner_mated t k a n.kind e b f coherent of.kind edge met in
    let same : m.0 ≡ n.other = let two : Some m.0 ≡ Some n.other = sym m.1 ∙ of.other in cc in
    mated_as t n e f of.edge of.back (subst (λ (l : ℕ). IsMated t n.kind e l f) same m.2)
  where
    mated_as : (t : Tables) (n : Node) (e f : ℕ) → n.edge ≡ e → n.back ≡ f → IsMated t n.kind e n.other f → IsMated t n.kind n.edge n.other n.back
    mated_as t n e f x y h = rw (x, y) h
node_mated t n coherent (further m pair node i of) =
    let above = node_mated t m coherent node in
    let r = row-among t m pair i in
    let on = (coherent.outer_part m.kind pair.mine.child pair.mine.edge m.edge r.part).1 r.mine in
    let its : r.across + (r.part + 1) ≡ part_count t m.other m.back = r.mirrored ∙ same_parts t m.kind m.edge m.other m.back coherent above in
    let a = across_part t m.kind m.edge m.other m.back pair.mine.child n.kind pair.mine.edge r.part r.across coherent above of.kind on its in
    let one : a.below ≡ pair.theirs = let two : Some a.below ≡ Some pair.theirs = sym a.below_is ∙ r.theirs in cc in
    let kind : child_kind_of t m.other pair.theirs.child ≡ Some a.kind = subst
    (λ (ce : ChildEdge). child_kind_of t m.other ce.child ≡ Some a.kind) one a.kind_is in
    let kinds : a.kind ≡ n.other = let two : Some a.kind ≡ Some n.other = sym kind ∙ of.other in cc in
    let mated' : IsMated t n.kind pair.mine.edge a.kind pair.theirs.edge = subst
    (λ (ce : ChildEdge). IsMated t n.kind pair.mine.edge a.kind ce.edge) one a.mated in
    let mated : IsMated t n.kind pair.mine.edge n.other pair.theirs.edge = subst
    (λ (l : ℕ). IsMated t n.kind pair.mine.edge l pair.theirs.edge) kinds mated' in
    rw (of.edge, of.back) mated

pub node_small : (t : Tables) (n : Node) → IsCoherent t → IsNode t n → AreNumbersSmall (width_of t) n
node_small t n coherent node =
    let m = node_mated t n coherent node in
    let mine = type_bounds t n.kind n.edge (rw m.own_is refl) in
    let theirs = type_bounds t n.other n.back (rw m.other_is refl) in
    let a = coherent.at_most_12_edges n.kind mine.0 in
    let b = coherent.at_most_12_edges n.other theirs.0 in
    record {
      mine = omega (arith, mine, a);
      edge = omega (arith, mine, a);
      theirs = omega (arith, theirs, b);
      back = omega (arith, theirs, b);
    }

-- ---- children that there are
pub contact_child : (t : Tables) (k a e : ℕ) → IsCoherent t → IsSome (contact_of t k a e) → IsSome (child_kind_of t k a)
contact_child t k a e coherent there =
    let bounds = contact_bounds t k a e there in
    rw (child_of t k a coherent bounds.1).1 refl

pub other_child : (t : Tables) (k a e b f : ℕ) → IsCoherent t → contact_of t k a e ≡ Some (inner b f) → IsSome (child_kind_of t k b)
other_child t k a e b f coherent met = contact_child t k b f coherent (rw (coherent.points_back k a e b f met) refl)

pub mine_child : (t : Tables) (n : Node) (r : RowPair) → IsCoherent t → IsAmong r (row_of t n) → IsSome (child_kind_of t n.kind r.mine.child)
mine_child t n r coherent i =
    let row = row-among t n r i in
    contact_child t n.kind r.mine.child r.mine.edge coherent
    (rw ((coherent.outer_part n.kind r.mine.child r.mine.edge n.edge row.part).1 row.mine) refl)

pub their_child : (t : Tables) (n : Node) (r : RowPair) → IsCoherent t → IsAmong r (row_of t n) → IsSome (child_kind_of t n.other r.theirs.child)
their_child t n r coherent i =
    let row = row-among t n r i in
    contact_child t n.other r.theirs.child r.theirs.edge coherent
    (rw ((coherent.outer_part n.other r.theirs.child r.theirs.edge n.back row.across).1 row.theirs) refl)

pub small_first : (t : Tables) (k a e b f ka kb : ℕ) → IsCoherent t → contact_of t k a e ≡ Some (inner b f)
    → child_kind_of t k a ≡ Some ka → child_kind_of t k b ≡ Some kb
    → AreNumbersSmall (width_of t) (record { kind = ka; edge = e; other = kb; back = f })
small_first t k a e b f ka kb coherent met mine theirs =
    node_small t (record { kind = ka; edge = e; other = kb; back = f }) coherent
    (first k a e b f met (record { kind = mine; edge = refl; other = theirs; back = refl }))

pub small_further : (t : Tables) (m : Node) (r : RowPair) (k l : ℕ) → IsCoherent t → IsNode t m → IsAmong r (row_of t m)
    → child_kind_of t m.kind r.mine.child ≡ Some k → child_kind_of t m.other r.theirs.child ≡ Some l
    → AreNumbersSmall (width_of t) (record { kind = k; edge = r.mine.edge; other = l; back = r.theirs.edge })
small_further t m r k l coherent node i mine theirs =
    node_small t (record { kind = k; edge = r.mine.edge; other = l; back = r.theirs.edge }) coherent
    (further m r node i (record { kind = mine; edge = refl; other = theirs; back = refl }))

pub child_inner : (t : Tables) (k a n b f ka kb : ℕ) → contact_of t k a n ≡ Some (inner b f)
    → child_kind_of t k a ≡ Some ka → child_kind_of t k b ≡ Some kb
    → child_nodes t k a n ++ (record { kind = ka; edge = n; other = kb; back = f }) ∷ [] ≡ child_nodes t k a (n + 1)
child_inner t k a n b f ka kb met mine theirs = rw (child_nodes-more t k a n, met, mine, theirs) refl

pub child_outer : (t : Tables) (k a n f p : ℕ) → contact_of t k a n ≡ Some (outer f p) → child_nodes t k a n ≡ child_nodes t k a (n + 1)
child_outer t k a n f p met = rw (child_nodes-more t k a n, met, append-nil (child_nodes t k a n)) refl
