-- One level of the reading, over plain variables.
use Rattle.std.proofs.Common.{◌≡◌, inl, inr, ℕ, ◌+◌, ◌<◌, ◌≤◌, Bool, ◌&&◌, List, [], ◌∷◌, ◌++◌, length, take, get_or, Some, IsSome, refl, sym, subst, arith, eqb, append_assoc}
use Rattle.std.specs.List.{flat_map}
use Rattle.std.proofs.lemmas.Bool.{eqb-true, and_parts}
use Rattle.std.proofs.lemmas.Grind.{flat_map-append}
use Rattle.theory_addresses.specs.Address.{Step}
use Rattle.theory_addresses.specs.Contact.{Contact, inner}
use Rattle.theory_addresses.specs.Search.{below, IsAmong}
use Rattle.theory_addresses.specs.Tables.{Tables, kind_tables, child_kind_of, contact_of, contacts_of}
use Rattle.theory_addresses.specs.Coherent.{IsCoherent}
use Rattle.theory_addresses.proofs.Lists.{IsAmong-append_left, IsAmong-append_right, IsAmong-flat_map}
use Rattle.theory_addresses.proofs.Ranges.{among-append, among-flat_map, IsAmong-below, among-below}
use Rattle.theory_addresses.proofs.TableBounds.{contact_bounds, some_within}
use Rattle.std.proofs.lemmas.List.{take_more, append-nil}
use Rattle.theory_addresses.proofs.Chains.{IsChain}
use Rattle.theory_addresses.proofs.FineTouch.{Meets-unique}
use Rattle.pair_machine.specs.Between.{Pair}
use Rattle.pair_machine.specs.Kept.{ArePairsKept, IsFunctional}
use Rattle.pair_machine.specs.Nodes.{Node, RowPair, IsNode, first, further, row_of}
use Rattle.pair_machine.specs.Reading.{same_steps, edge_met_by, between_children, left_of, node_of, first_pairs, step_pairs, pairs_read}
use Rattle.pair_machine.proofs.Leaving.{read_meets}
use Rattle.pair_machine.proofs.LeftOfRows.{row-among, left-among, between-among, first-among}
use Rattle.pair_machine.proofs.Keeping.{two, between_upto, between_more, functional_less}
use Rattle.pair_machine.proofs.Places.{among-take}

-- ---- edges are below 12
pub child_of : (t : Tables) (k c : ℕ) → IsCoherent t → c < length (kind_tables t k).contacts → (kind : ℕ) × (child_kind_of t k c ≡ Some kind)
unfolding child_kind_of
child_of t k c coherent h = some_within (kind_tables t k).children c (omega (arith, h, coherent.contacts_each k))

pub child_edge_small : (t : Tables) (k c e : ℕ) → IsCoherent t → IsSome (contact_of t k c e) → e < 12
child_edge_small t k c e coherent there =
    let bounds = contact_bounds t k c e there in
    let kind = child_of t k c coherent bounds.1 in
    let same = coherent.contact_each k c kind.0 kind.1 in
    let few = coherent.at_most_12_edges kind.0 (coherent.child_exists k c kind.0 kind.1) in
    omega (arith, bounds.2, same, few)

pub row_edge_small : (t : Tables) (n : Node) (r : RowPair) → IsCoherent t → IsAmong r (row_of t n) → r.mine.edge < 12
row_edge_small t n r coherent i =
    let row = row-among t n r i in
    let on = (coherent.outer_part n.kind r.mine.child r.mine.edge n.edge row.part).1 row.mine in
    child_edge_small t n.kind r.mine.child r.mine.edge coherent (rw on refl)

-- ---- the contacts of two children
between_upto-among : (t : Tables) (k a b n e f : ℕ) → n ≤ length (contacts_of t k a)
    → IsAmong (two e f) (between_upto t k a b n) → contact_of t k a e ≡ Some (inner b f)
unfolding between_upto between_children
between_upto-among t k a b n e f le i =
    let r = among-flat_map (λ g. edge_met_by g b (contact_of t k a g)) (two e f) (below (λ g. g) n) i in
    let range = among-below (λ g. g) n r.piece r.among in
    between-among t k a b e f
    (IsAmong-flat_map (λ g. edge_met_by g b (contact_of t k a g)) r.piece (two e f) (below (λ g. g) (length (contacts_of t k a)))
    (subst (λ (m : ℕ). IsAmong m (below (λ g. g) (length (contacts_of t k a)))) (sym range.is)
    (IsAmong-below (λ g. g) (length (contacts_of t k a)) range.number
    (omega (arith, range.in_range, le)))) r.inside)

between_functional : (t : Tables) (k a b n : ℕ) → n ≤ length (contacts_of t k a) → IsFunctional (between_upto t k a b n)
between_functional t k a b n le = λ e f g i j.
    let x = between_upto-among t k a b n e f le i in
    let y = between_upto-among t k a b n e g le j in
    cc

pub meet_more : (t : Tables) (k a b n : ℕ) (c : Contact) (now new : List Pair) → contact_of t k a n ≡ Some c
    → ArePairsKept now (between_upto t k a b n)
    → ((ps : List Pair) → ArePairsKept now ps → IsFunctional (ps ++ edge_met_by n b (Some c)) → ArePairsKept new (ps ++ edge_met_by n b (Some c)))
    → ArePairsKept new (between_upto t k a b (n + 1))
meet_more t k a b n c now new is kept more =
    let bounds = contact_bounds t k a n (rw is refl) in
    let e = between_more t k a b n c is in
    subst (ArePairsKept new) (sym e) (more (between_upto t k a b n) kept
    (subst IsFunctional e (between_functional t k a b (n + 1) (omega (arith, bounds.2)))))

-- ---- the rows of the pairs above
abbrev rest_of : Tables → Step → Step → List Pair → List Pair
rest_of t x y ps = flat_map (λ p. left_of (row_of t (node_of x y p)) x.child y.child) ps

pub step_less : (t : Tables) (x y : Step) (fresh : Bool) (ps qs : List Pair)
    → ((p : Pair) → IsAmong p ps → IsAmong p qs) → (p : Pair) → IsAmong p (step_pairs t x y fresh ps)
    → IsAmong p (step_pairs t x y fresh qs)
step_less t x y fresh ps qs sub p i = elim (among-append p (first_pairs t x y fresh)
    (flat_map (λ p. left_of (row_of t (node_of x y p)) x.child y.child) ps) i) [
      | inl j ↦ IsAmong-append_left p (first_pairs t x y fresh) (flat_map (λ p. left_of (row_of t (node_of x y p)) x.child y.child) qs) j
      | inr j ↦
          let r = among-flat_map (λ p. left_of (row_of t (node_of x y p)) x.child y.child) p ps j in
          IsAmong-append_right p (first_pairs t x y fresh) (flat_map (λ p. left_of (row_of t (node_of x y p)) x.child y.child) qs)
          (IsAmong-flat_map (λ p. left_of (row_of t (node_of x y p)) x.child y.child) r.piece p qs (sub r.piece r.among) r.inside)
    ]

pub read_more : (t : Tables) (x y : Step) (fresh : Bool) (above now new : List Pair) (n : ℕ) (d p : Pair) → n < length above → get_or above n d ≡ p
    → IsFunctional (step_pairs t x y fresh above) → ArePairsKept now (step_pairs t x y fresh (take n above))
    → ((ps : List Pair) → ArePairsKept now ps → IsFunctional
    (ps ++ left_of (row_of t (node_of x y p)) x.child y.child)
    → ArePairsKept new (ps ++ left_of (row_of t (node_of x y p)) x.child y.child))
    → ArePairsKept new (step_pairs t x y fresh (take (n + 1) above))
read_more t x y fresh above now new n d p inside at functional kept more =
    let rest : rest_of t x y (take (n + 1) above) ≡ rest_of t x y (take n above) ++ left_of (row_of t (node_of x y p)) x.child y.child =
    rw (
      take_more above n d inside,
      at,
      flat_map-append
          (λ p. left_of (row_of t (node_of x y p)) x.child y.child) (take n above) (p ∷ []),
      append-nil
          (left_of (row_of t (node_of x y p)) x.child y.child),
    ) refl in
    let e : step_pairs t x y fresh (take (n + 1) above) ≡ step_pairs t x y fresh (take n above)
    ++ left_of (row_of t (node_of x y p)) x.child y.child =
    rw rest (sym (append_assoc (first_pairs t x y fresh) (rest_of t x y (take n above)) (left_of (row_of t (node_of x y p)) x.child y.child))) in
    let less : IsFunctional (step_pairs t x y fresh (take (n + 1) above)) =
    functional_less (step_pairs t x y fresh (take (n + 1) above)) (step_pairs t x y fresh above)
    (step_less t x y fresh (take (n + 1) above) above (λ q i. among-take q above (n + 1) i)) functional in
    subst (ArePairsKept new) (sym e) (more (step_pairs t x y fresh (take n above)) kept (subst IsFunctional e less))

-- ---- the pairs that are read are those of nodes
first_node : (t : Tables) (k l e f : ℕ) (x y : Step) → x.parent ≡ y.parent → contact_of t x.parent x.child e ≡ Some (inner y.child f)
    → child_kind_of t x.parent x.child ≡ Some k → child_kind_of t y.parent y.child ≡ Some l
    → IsNode t (record { kind = k; edge = e; other = l; back = f })
first_node t k l e f x y parent met fits fits' =
    let other : child_kind_of t x.parent y.child ≡ Some l = rw parent fits' in
    first x.parent x.child e y.child f met (record { kind = fits; edge = refl; other = other; back = refl })

pub read_node : (t : Tables) (xs ys : List Step) (k l e f : ℕ) → IsCoherent t → IsChain t k xs → IsChain t l ys
    → IsAmong (two e f) (pairs_read t xs ys) → IsNode t (record { kind = k; edge = e; other = l; back = f })
read_node t [] ys k l e f coherent fits fits' i = elim i [ ]
read_node t (x ∷ xs) [] k l e f coherent fits fits' i = elim i [ ]
read_node t (x ∷ xs) (y ∷ ys) k l e f coherent fits fits' i =
    elim (among-append (two e f) (first_pairs t x y (eqb x.parent y.parent && same_steps xs ys))
    (flat_map (λ p. left_of (row_of t (node_of x y p)) x.child y.child) (pairs_read t xs ys)) i) [
      | inl j ↦
          let r = first-among t x y (eqb x.parent y.parent && same_steps xs ys) (two e f) j in
          let tests = and_parts (eqb x.parent y.parent) (same_steps xs ys) r.0 in
          first_node t k l e f x y (eqb-true x.parent y.parent tests.0) (between-among t x.parent x.child y.child e f r.1) fits.0 fits'.0
      | inr j ↦
          let r = among-flat_map (λ p. left_of (row_of t (node_of x y p)) x.child y.child) (two e f) (pairs_read t xs ys) j in
          let row = left-among t (node_of x y r.piece) x.child y.child e f r.inside in
          further (node_of x y r.piece) (record { mine = record { child = x.child; edge = e }; theirs = record { child = y.child; edge = f } })
          (read_node t xs ys x.parent y.parent r.piece.mine r.piece.theirs coherent fits.1 fits'.1 r.among) row
          (record { kind = fits.0; edge = refl; other = fits'.0; back = refl })
    ]

pub read_functional : (t : Tables) (xs ys : List Step) (k l : ℕ) → IsCoherent t → IsChain t k xs → IsChain t l ys → IsFunctional (pairs_read t xs ys)
read_functional t xs ys k l coherent fits fits' = λ e f g i j.
    (Meets-unique l l coherent (read_meets t xs ys k l e f coherent fits fits' i).meets
    (read_meets t xs ys k l e g coherent fits fits' j).meets fits' fits').edges
