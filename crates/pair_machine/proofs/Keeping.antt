-- The pairs that are kept in order, one more.
use Rattle.std.proofs.Common.{◌≡◌, inl, inr, ℕ, ◌+◌, ◌<◌, List, [], ◌∷◌, ◌++◌, length, take, get_or, Option, Some, refl, sym, ap, ◌∙◌, subst, eq-eqb, append_assoc}
use Rattle.std.specs.List.{flat_map, insert}
use Rattle.std.proofs.lemmas.Grind.{flat_map-append}
use Rattle.std.proofs.lemmas.List.{take_more, append-nil}
use Rattle.theory_addresses.specs.Contact.{Contact, inner}
use Rattle.theory_addresses.specs.Search.{below, IsAmong}
use Rattle.theory_addresses.specs.Tables.{Tables, contact_of, contacts_of}
use Rattle.theory_addresses.proofs.Lists.{IsAmong-append_left, IsAmong-append_right, IsAmong-flat_map}
use Rattle.theory_addresses.proofs.Ranges.{among-append, among-flat_map}
use Rattle.theory_addresses.proofs.Searches.{below-more}
use Rattle.pair_machine.specs.Between.{Pair}
use Rattle.pair_machine.specs.Kept.{ArePairsKept, IsFunctional}
use Rattle.pair_machine.specs.Nodes.{RowPair}
use Rattle.pair_machine.specs.Reading.{edge_met_by, between_children, left_one, left_of}
use Rattle.pair_machine.proofs.InOrder.{insert-among, among-insert}
use Rattle.pair_machine.proofs.Places.{among-take}

-- the pair of these edges
abbrev pub two : ℕ → ℕ → Pair
two m f = record { mine = m; theirs = f }

-- ---- what is kept
pub kept_inserted : (kept ps : List Pair) (place : ℕ) (m : Pair) → ArePairsKept kept ps → ArePairsKept (insert kept place m) (ps ++ m ∷ [])
kept_inserted kept ps place m h = record {
  all = λ p i. elim (among-append p ps (m ∷ []) i) [
    | inl j ↦ among-insert kept place m p (inl (h.all p j))
    | inr j ↦ elim j [ inl e ↦ among-insert kept place m p (inr e) | inr k ↦ elim k [ ] ]
  ];
  only = λ p i. elim (insert-among kept place m p i) [
    | inl j ↦ IsAmong-append_left p ps (m ∷ []) (h.only p j)
    | inr e ↦ IsAmong-append_right p ps (m ∷ []) (inl e)
  ];
}

-- ---- a pair that is there
pub kept_there : (kept ps : List Pair) (m : Pair) → ((q : Pair) × IsAmong q kept × (q.mine ≡ m.mine))
    → ArePairsKept kept ps → IsFunctional (ps ++ m ∷ []) → ArePairsKept kept (ps ++ m ∷ [])
kept_there kept ps m (q, i, same) h functional = record {
  all = λ p j. elim (among-append p ps (m ∷ []) j) [
    | inl k ↦ h.all p k
    | inr k ↦ elim k [ inl e ↦ subst (λ (x : Pair). IsAmong x kept) (one ∙ sym e) i | inr n ↦ elim n [ ] ]
  ];
  only = λ p j. IsAmong-append_left p ps (m ∷ []) (h.only p j);
}
  where
    mine : IsAmong (two m.mine q.theirs) (ps ++ m ∷ [])
    mine = IsAmong-append_left (two m.mine q.theirs) ps (m ∷ []) (subst (λ (n : ℕ). IsAmong (two n q.theirs) ps) same (h.only q i))

    theirs : q.theirs ≡ m.theirs
    theirs = functional m.mine q.theirs m.theirs mine (IsAmong-append_right m ps (m ∷ []) (inl refl))

    one : q ≡ m
    one = λ j. two (same j) (theirs j)

pub kept_none : (table ps more : List Pair) → more ≡ [] → ArePairsKept table ps → ArePairsKept table (ps ++ more)
kept_none table ps more none kept = rw (none, append-nil ps) kept

-- fewer pairs are functional too
pub functional_less : (ps qs : List Pair) → ((p : Pair) → IsAmong p ps → IsAmong p qs) → IsFunctional qs → IsFunctional ps
functional_less ps qs sub h = λ e f g i j. h e f g (sub (record { mine = e; theirs = f }) i) (sub (record { mine = e; theirs = g }) j)

-- the same members
pub kept_same : (kept ps qs : List Pair) → ((p : Pair) → IsAmong p ps → IsAmong p qs)
    → ((p : Pair) → IsAmong p qs → IsAmong p ps) → ArePairsKept kept ps → ArePairsKept kept qs
kept_same kept ps qs f g h = record { all = λ p i. h.all p (g p i); only = λ p i. f p (h.only p i) }

-- ---- contacts and pairs of rows, one more
unfoldable pub between_upto : Tables → ℕ → ℕ → ℕ → ℕ → List Pair
between_upto t k a b n = flat_map (λ e. edge_met_by e b (contact_of t k a e)) (below (λ e. e) n)

pub between_none : (t : Tables) (k a b : ℕ) → between_upto t k a b 0 ≡ []
unfolding between_upto
between_none t k a b = refl

pub between_more : (t : Tables) (k a b n : ℕ) (c : Contact) → contact_of t k a n ≡ Some c
    → between_upto t k a b (n + 1) ≡ between_upto t k a b n ++ edge_met_by n b (Some c)
unfolding between_upto
between_more t k a b n c is = rw (
  below-more (λ e. e) n,
  flat_map-append
      (λ e. edge_met_by e b (contact_of t k a e)) (below (λ e. e) n) (n ∷ []),
)
    (ap (λ (l : List Pair). flat_map (λ e. edge_met_by e b (contact_of t k a e)) (below (λ e. e) n) ++ l)
    (last (contact_of t k a n) is))
  where
    last : (o : Option Contact) → o ≡ Some c → edge_met_by n b o ++ [] ≡ edge_met_by n b (Some c)
    last o e = rw e (append-nil (edge_met_by n b (Some c)))

pub between_all : (t : Tables) (k a b : ℕ) → between_upto t k a b (length (contacts_of t k a)) ≡ between_children t k a b
unfolding between_upto between_children
between_all t k a b = refl

pub left_of-more : (row : List RowPair) (i a b : ℕ) (d : RowPair) → i < length row
    → left_of (take (i + 1) row) a b ≡ left_of (take i row) a b ++ left_one (get_or row i d) a b
unfolding left_of
left_of-more row i a b d h =
    rw (
      take_more row i d h,
      flat_map-append (λ (r : RowPair). left_one r a b) (take i row)
          (get_or row i d ∷ []),
      append-nil (left_one (get_or row i d) a b),
    ) refl

left_of-take : (row : List RowPair) (i a b : ℕ) (p : Pair) → IsAmong p (left_of (take i row) a b) → IsAmong p (left_of row a b)
unfolding left_of
left_of-take row i a b p j =
    let r = among-flat_map (λ (r : RowPair). left_one r a b) p (take i row) j in
    IsAmong-flat_map (λ (r : RowPair). left_one r a b) r.piece p row (among-take r.piece row i r.among) r.inside

-- a loop over a row, one pair more
pub row_more : (old now new ps : List Pair) (row : List RowPair) (i a b : ℕ) (d r : RowPair) → i < length row → get_or row i d ≡ r
    → (IsFunctional (ps ++ left_of row a b) → ArePairsKept now (ps ++ left_of (take i row) a b))
    → ((qs : List Pair) → ArePairsKept now qs → IsFunctional (qs ++ left_one r a b) → ArePairsKept new (qs ++ left_one r a b))
    → IsFunctional (ps ++ left_of row a b) → ArePairsKept new (ps ++ left_of (take (i + 1) row) a b)
row_more old now new ps row i a b d r h at before more functional =
    let e : ps ++ left_of (take (i + 1) row) a b ≡ (ps ++ left_of (take i row) a b)
    ++ left_one r a b = rw (left_of-more row i a b d h, at)
    (sym (append_assoc ps (left_of (take i row) a b) (left_one r a b))) in
    let less : IsFunctional ((ps ++ left_of (take i row) a b) ++ left_one r a b) = subst IsFunctional e
    (functional_less (ps ++ left_of (take (i + 1) row) a b) (ps ++ left_of row a b) (sub (i + 1))
    functional) in
    subst (ArePairsKept new) (sym e) (more (ps ++ left_of (take i row) a b) (before functional) less)
  where
    sub : (n : ℕ) (p : Pair) → IsAmong p (ps ++ left_of (take n row) a b) → IsAmong p (ps ++ left_of row a b)
    sub n p j = elim (among-append p ps (left_of (take n row) a b) j) [
      | inl k ↦ IsAmong-append_left p ps (left_of row a b) k
      | inr k ↦ IsAmong-append_right p ps (left_of row a b) (left_of-take row n a b p k)
    ]

pub left_of-none : (a b : ℕ) → left_of [] a b ≡ []
unfolding left_of
left_of-none a b = refl

-- ---- steps of the code
pub contact_kept : (new ps : List Pair) (e b c f : ℕ) → c ≡ b
    → (IsFunctional (ps ++ (record { mine = e; theirs = f }) ∷ []) → ArePairsKept new (ps ++ (record { mine = e; theirs = f }) ∷ []))
    → IsFunctional (ps ++ edge_met_by e b (Some (inner c f))) → ArePairsKept new (ps ++ edge_met_by e b (Some (inner c f)))
contact_kept new ps e b c f same more functional =
    let one : edge_met_by e b (Some (inner c f)) ≡ (record { mine = e; theirs = f }) ∷ [] = rw (eq-eqb c b same) refl in
    subst (λ (l : List Pair). ArePairsKept new (ps ++ l)) (sym one) (more (subst (λ (l : List Pair). IsFunctional (ps ++ l)) one functional))

pub one_kept : (new ps : List Pair) (r : RowPair) (a b : ℕ) → r.mine.child ≡ a → r.theirs.child ≡ b
    → (IsFunctional (ps ++ (record { mine = r.mine.edge; theirs = r.theirs.edge }) ∷ [])
    → ArePairsKept new (ps ++ (record { mine = r.mine.edge; theirs = r.theirs.edge }) ∷ []))
    → IsFunctional (ps ++ left_one r a b) → ArePairsKept new (ps ++ left_one r a b)
one_kept new ps r a b ha hb more functional =
    let one : left_one r a b ≡ (record { mine = r.mine.edge; theirs = r.theirs.edge })
    ∷ [] = rw (eq-eqb r.mine.child a ha, eq-eqb r.theirs.child b hb) refl in
    subst (λ (l : List Pair). ArePairsKept new (ps ++ l)) (sym one) (more (subst (λ (l : List Pair). IsFunctional (ps ++ l)) one functional))
