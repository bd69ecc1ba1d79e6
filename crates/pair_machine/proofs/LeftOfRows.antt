-- Reading from coarse to fine leaves exactly the edges that meet.
use Rattle.std.proofs.Common.{◌≡◌, inl, inr, ℕ, ◌+◌, ◌-◌, ◌<◌, Bool, true, false, ◌&&◌, List, [], ◌∷◌, length, Option, Some, None, IsSome, refl, sym, ap, subst, arith, eqb, eq-eqb}
use Rattle.std.proofs.lemmas.Bool.{eqb-true, and_parts}
use Rattle.theory_addresses.specs.Address.{Step}
use Rattle.theory_addresses.specs.Contact.{Contact, ChildEdge, inner, outer}
use Rattle.theory_addresses.specs.Search.{below, IsAmong}
use Rattle.theory_addresses.specs.Tables.{Tables, kind_tables, child_kind_of, type_of, contacts_of, contact_of, part_of, part_count}
use Rattle.theory_addresses.specs.Coherent.{IsCoherent}
use Rattle.theory_addresses.proofs.Lists.{IsAmong-flat_map}
use Rattle.theory_addresses.proofs.Ranges.{among-flat_map, IsAmong-below, among-below}
use Rattle.theory_addresses.proofs.TableBounds.{contact_bounds, some_within}
use Rattle.theory_addresses.proofs.FineTouch.{step-eq}
use Rattle.pair_machine.specs.Between.{Pair}
use Rattle.pair_machine.specs.Nodes.{Node, RowPair, both_of, row_of}
use Rattle.pair_machine.specs.Reading.{same_steps, only_if, edge_met_by, between_children, left_of, first_pairs}

-- ---- tests
pub same_steps-true : (xs ys : List Step) → same_steps xs ys ≡ true → xs ≡ ys
same_steps-true [] [] h = refl
same_steps-true [] (y ∷ ys) h = absurd cc
same_steps-true (x ∷ xs) [] h = absurd cc
same_steps-true (x ∷ xs) (y ∷ ys) h =
    let one = and_parts (eqb x.child y.child) (eqb x.parent y.parent && same_steps xs ys) h in
    let two = and_parts (eqb x.parent y.parent) (same_steps xs ys) one.1 in
    let here = step-eq x y (eqb-true x.child y.child one.0) (eqb-true x.parent y.parent two.0) in
    rw (here, same_steps-true xs ys two.1) refl

pub same_steps-same : (xs : List Step) → same_steps xs xs ≡ true
same_steps-same [] = refl
same_steps-same (x ∷ xs) = rw (eq-eqb x.child x.child refl, eq-eqb x.parent x.parent refl, same_steps-same xs) refl

only_if-among : {A : Type 0} (b : Bool) (x y : A) → IsAmong y (only_if b x) → (b ≡ true) × (y ≡ x)
only_if-among true x y (inl e) = (refl, e)
only_if-among true x y (inr i) = elim i [ ]
only_if-among false x y i = elim i [ ]

among-only_if : {A : Type 0} (b : Bool) (x : A) → b ≡ true → IsAmong x (only_if b x)
among-only_if true x h = inl refl
among-only_if false x h = absurd cc

-- ---- the inner contacts between two children
met_by-among : (e b : ℕ) (o : Option Contact) (g f : ℕ) → IsAmong (record { mine = g; theirs = f }) (edge_met_by e b o)
    → (g ≡ e) × (o ≡ Some (inner b f))
met_by-among e b None g f i = elim i [ ]
met_by-among e b (Some (inner c h)) g f i =
    let r = only_if-among (eqb c b) (record { mine = e; theirs = h }) (record { mine = g; theirs = f }) i in
    let child = eqb-true c b r.0 in
    let theirs : f ≡ h = ap (λ (p : Pair). p.theirs) r.1 in
    (ap (λ (p : Pair). p.mine) r.1, rw (child, theirs) refl)
met_by-among e b (Some (outer c h)) g f i = elim i [ ]

pub between-among : (t : Tables) (k a b e f : ℕ)
    → IsAmong (record { mine = e; theirs = f }) (between_children t k a b)
    → contact_of t k a e ≡ Some (inner b f)
unfolding between_children
between-among t k a b e f i =
    let r = among-flat_map (λ g. edge_met_by g b (contact_of t k a g)) (record { mine = e; theirs = f }) (below (λ g. g) (length (contacts_of t k a)))
    i in
    let m = met_by-among r.piece b (contact_of t k a r.piece) e f r.inside in
    rw m.0 m.1

pub among-between : (t : Tables) (k a b e f : ℕ) → contact_of t k a e ≡ Some (inner b f)
    → IsAmong (record { mine = e; theirs = f }) (between_children t k a b)
unfolding between_children
among-between t k a b e f met =
    let bounds = contact_bounds t k a e (rw met refl) in
    let here : IsAmong (record { mine = e; theirs = f }) (edge_met_by e b (contact_of t k a e)) = rw met
    (among-only_if (eqb b b) (record { mine = e; theirs = f }) (eq-eqb b b refl)) in
    IsAmong-flat_map (λ g. edge_met_by g b (contact_of t k a g)) e (record { mine = e; theirs = f })
    (below (λ g. g) (length (contacts_of t k a)))
    (IsAmong-below (λ g. g) (length (contacts_of t k a)) e bounds.2) here

-- ---- rows
both_of-among : (o u : Option ChildEdge) (r : RowPair) → IsAmong r (both_of o u) → (o ≡ Some r.mine) × (u ≡ Some r.theirs)
both_of-among None u r i = elim i [ ]
both_of-among (Some x) None r i = elim i [ ]
both_of-among (Some x) (Some y) r (inl e) = (ap (λ (p : RowPair). Some p.mine) (sym e), ap (λ (p : RowPair). Some p.theirs) (sym e))
both_of-among (Some x) (Some y) r (inr i) = elim i [ ]

-- the part of a pair of a row
pub record InRow (t : Tables) (n : Node) (r : RowPair) : Type 0 where
  pub part : ℕ
  pub across : ℕ
  pub mirrored : across + (part + 1) ≡ part_count t n.kind n.edge
  pub mine : part_of t n.kind n.edge part ≡ Some r.mine
  pub theirs : part_of t n.other n.back across ≡ Some r.theirs

pub row-among : (t : Tables) (n : Node) (r : RowPair) → IsAmong r (row_of t n) → InRow t n r
unfolding row_of
row-among t n r i =
    let s = part_count t n.kind n.edge in
    let piece = among-flat_map (λ p. both_of (part_of t n.kind n.edge p)
    (part_of t n.other n.back (part_count t n.kind n.edge - 1 - p))) r
    (below (λ p. p) (part_count t n.kind n.edge)) i in
    let range = among-below (λ p. p) (part_count t n.kind n.edge) piece.piece piece.among in
    let lt : piece.piece < part_count t n.kind n.edge = rw range.is range.in_range in
    let both = both_of-among (part_of t n.kind n.edge piece.piece)
    (part_of t n.other n.back (part_count t n.kind n.edge - 1 - piece.piece)) r piece.inside in
    record { part = piece.piece; across = part_count t n.kind n.edge - 1 - piece.piece; mirrored = omega (arith, lt); mine = both.0; theirs = both.1 }

pub among-row : (t : Tables) (n : Node) (r : RowPair) → InRow t n r → IsAmong r (row_of t n)
unfolding row_of
among-row t n r h =
    let lt : h.part < part_count t n.kind n.edge = omega (arith, h.mirrored) in
    let back : part_count t n.kind n.edge - 1 - h.part ≡ h.across = omega (arith, h.mirrored) in
    let theirs : part_of t n.other n.back (part_count t n.kind n.edge - 1 - h.part) ≡ Some r.theirs = rw back h.theirs in
    let here : IsAmong r (both_of (part_of t n.kind n.edge h.part)
    (part_of t n.other n.back (part_count t n.kind n.edge - 1 - h.part))) = rw (h.mine, theirs)
    (inl refl) in
    IsAmong-flat_map (λ p. both_of (part_of t n.kind n.edge p)
    (part_of t n.other n.back (part_count t n.kind n.edge - 1 - p))) h.part r
    (below (λ p. p) (part_count t n.kind n.edge))
    (IsAmong-below (λ p. p) (part_count t n.kind n.edge) h.part lt) here

-- what is left of a row
pub left-among : (t : Tables) (n : Node) (a b e f : ℕ) → IsAmong (record { mine = e; theirs = f }) (left_of (row_of t n) a b)
    → IsAmong (record { mine = record { child = a; edge = e }; theirs = record { child = b; edge = f } }) (row_of t n)
unfolding left_of
left-among t n a b e f i =
    let r = among-flat_map (λ (r : RowPair). only_if (eqb r.mine.child a && eqb r.theirs.child b)
    (record { mine = r.mine.edge; theirs = r.theirs.edge })) (record { mine = e; theirs = f })
    (row_of t n) i in
    let o = only_if-among (eqb r.piece.mine.child a && eqb r.piece.theirs.child b)
    (record { mine = r.piece.mine.edge; theirs = r.piece.theirs.edge }) (record { mine = e; theirs = f })
    r.inside in
    let two = and_parts (eqb r.piece.mine.child a) (eqb r.piece.theirs.child b) o.0 in
    let same : r.piece ≡ record { mine = record { child = a; edge = e }; theirs = record { child = b; edge = f } } = pair-eq r.piece a b e f
    (eqb-true r.piece.mine.child a two.0) (eqb-true r.piece.theirs.child b two.1)
    (ap (λ (p : Pair). p.mine) (sym o.1)) (ap (λ (p : Pair). p.theirs) (sym o.1)) in
    subst (λ (x : RowPair). IsAmong x (row_of t n)) same r.among
  where
    pair-eq : (p : RowPair) (a b e f : ℕ) → p.mine.child ≡ a → p.theirs.child ≡ b → p.mine.edge ≡ e → p.theirs.edge ≡ f
        → p ≡ record { mine = record { child = a; edge = e }; theirs = record { child = b; edge = f } }
    pair-eq p a b e f ha hb he hf = λ i. record { mine = record { child = ha i; edge = he i }; theirs = record { child = hb i; edge = hf i } }

pub among-left : (t : Tables) (n : Node) (a b e f : ℕ)
    → IsAmong (record { mine = record { child = a; edge = e }; theirs = record { child = b; edge = f } })
    (row_of t n)
    → IsAmong (record { mine = e; theirs = f }) (left_of (row_of t n) a b)
unfolding left_of
among-left t n a b e f i =
    let test : (eqb a a && eqb b b) ≡ true = rw (eq-eqb a a refl, eq-eqb b b refl) refl in
    IsAmong-flat_map (λ (r : RowPair). only_if (eqb r.mine.child a && eqb r.theirs.child b) (record { mine = r.mine.edge; theirs = r.theirs.edge }))
    (record { mine = record { child = a; edge = e }; theirs = record { child = b; edge = f } }) (record { mine = e; theirs = f }) (row_of t n) i
    (among-only_if (eqb a a && eqb b b) (record { mine = e; theirs = f }) test)

-- ---- edges that are there
pub edge_there : (t : Tables) (k a kind e : ℕ) → IsCoherent t → child_kind_of t k a ≡ Some kind
    → IsSome (contact_of t k a e) → IsSome (type_of t kind e)
unfolding type_of
edge_there t k a kind e coherent child there =
    let bounds = contact_bounds t k a e there in
    let own = some_within (kind_tables t kind).types e (omega (arith, bounds.2, coherent.contact_each k a kind child)) in
    rw own.1 refl

pub first-among : (t : Tables) (x y : Step) (b : Bool) (p : Pair) → IsAmong p (first_pairs t x y b)
    → (b ≡ true) × IsAmong p (between_children t x.parent x.child y.child)
first-among t x y true p i = (refl, i)
first-among t x y false p i = elim i [ ]

pub among-first : (t : Tables) (x y : Step) (b : Bool) (p : Pair) → b ≡ true
    → IsAmong p (between_children t x.parent x.child y.child) → IsAmong p (first_pairs t x y b)
among-first t x y true p h i = i
among-first t x y false p h i = absurd cc
