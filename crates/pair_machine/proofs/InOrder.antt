-- Lists of pairs in order: a pair that joins, and what tells two of them apart.
use Rattle.std.proofs.Common.{◌≡◌, ◌⊎◌, inl, inr, ℕ, zero, suc, ◌+◌, ◌<◌, ◌≤◌, List, [], ◌∷◌, length, map, drop, Some, refl, sym, ap, arith}
use Rattle.std.specs.List.{insert, slice_get}
use Rattle.std.proofs.lemmas.List.Edits.{length-insert}
use Rattle.theory_addresses.specs.Address.{Address}
use Rattle.theory_addresses.specs.Search.{IsAmong}
use Rattle.theory_addresses.specs.Tables.{Tables}
use Rattle.pair_machine.specs.declared.edge_pair.EdgePair.{EdgePair}
use Rattle.pair_machine.specs.Between.{Pair, AllAbove, IsInOrder, IsBetween}
use Rattle.pair_machine.specs.Kept.{BelongsAt}
use Rattle.pair_machine.specs.Views.{as_pair}

-- ---- members
pub above_among : (e : ℕ) (p : Pair) (ps : List Pair) → AllAbove e ps → IsAmong p ps → e < p.mine
above_among e p [] h i = elim i [ ]
above_among e p (q ∷ qs) h (inl is) = omega (arith, h.0, ap (λ (x : Pair). x.mine) is)
above_among e p (q ∷ qs) h (inr i) = above_among e p qs h.1 i

among_above : (e : ℕ) (ps : List Pair) → ((p : Pair) → IsAmong p ps → e < p.mine) → AllAbove e ps
among_above e [] h = tt
among_above e (p ∷ ps) h = (h p (inl refl), among_above e ps (λ q i. h q (inr i)))

-- what stands from a place on is greater than what is less than the pair there
pub behind_at : (ps : List Pair) (place m : ℕ) (q : Pair) → IsInOrder ps → slice_get ps place ≡ Some q
    → m < q.mine → (p : Pair) → IsAmong p (drop place ps) → m < p.mine
behind_at [] place m q h at lt p i = absurd cc
behind_at (x ∷ xs) zero m q h at lt p (inl e) = let one : x ≡ q = cc in omega (arith, lt, ap (λ (y : Pair). y.mine) e, ap (λ (y : Pair). y.mine) one)
behind_at (x ∷ xs) zero m q h at lt p (inr i) = let one : x ≡ q = cc in omega
    (arith, lt, above_among x.mine p xs h.0 i, ap (λ (y : Pair). y.mine) one)
behind_at (x ∷ xs) (suc place) m q h at lt p i = behind_at xs place m q h.1 at lt p i

-- at most as many as there are edges
pub in_order_few : (low : ℕ) (ps : List Pair) → IsInOrder ps → ((p : Pair) → IsAmong p ps → low ≤ p.mine)
    → ((p : Pair) → IsAmong p ps → p.mine < 12) → low ≤ 12 → length ps + low ≤ 12
in_order_few low [] h from small le = omega arith
in_order_few low (p ∷ ps) h from small le =
    let first = from p (inl refl) in
    let here = small p (inl refl) in
    let rest = in_order_few (p.mine + 1) ps h.1 (λ q i. omega (arith, above_among p.mine q ps h.0 i))
    (λ q i. small q (inr i)) (omega (arith, here)) in
    omega (arith, first, rest)

-- ---- a pair that joins
pub insert-among : (ps : List Pair) (place : ℕ) (m p : Pair) → IsAmong p (insert ps place m) → IsAmong p ps ⊎ (p ≡ m)
insert-among [] zero m p (inl e) = inr e
insert-among [] zero m p (inr i) = elim i [ ]
insert-among [] (suc place) m p (inl e) = inr e
insert-among [] (suc place) m p (inr i) = elim i [ ]
insert-among (q ∷ qs) zero m p (inl e) = inr e
insert-among (q ∷ qs) zero m p (inr i) = inl i
insert-among (q ∷ qs) (suc place) m p (inl e) = inl (inl e)
insert-among (q ∷ qs) (suc place) m p (inr i) = elim (insert-among qs place m p i) [ inl j ↦ inl (inr j) | inr e ↦ inr e ]

pub among-insert : (ps : List Pair) (place : ℕ) (m p : Pair) → IsAmong p ps ⊎ (p ≡ m) → IsAmong p (insert ps place m)
among-insert [] zero m p (inl i) = elim i [ ]
among-insert [] (suc place) m p (inl i) = elim i [ ]
among-insert [] zero m p (inr e) = inl e
among-insert [] (suc place) m p (inr e) = inl e
among-insert (q ∷ qs) zero m p (inl i) = inr i
among-insert (q ∷ qs) zero m p (inr e) = inl e
among-insert (q ∷ qs) (suc place) m p (inl (inl e)) = inl e
among-insert (q ∷ qs) (suc place) m p (inl (inr i)) = inr (among-insert qs place m p (inl i))
among-insert (q ∷ qs) (suc place) m p (inr e) = inr (among-insert qs place m p (inr e))

pub in_order-insert : (ps : List Pair) (place : ℕ) (m : Pair) → IsInOrder ps → BelongsAt ps m.mine place → IsInOrder (insert ps place m)
in_order-insert [] zero m h b = (tt, tt)
in_order-insert [] (suc place) m h b = absurd (omega (arith, b.within))
in_order-insert (q ∷ qs) zero m h b = (among_above m.mine (q ∷ qs) (λ p i. b.behind p i), h)
in_order-insert (q ∷ qs) (suc place) m h b = (
  among_above q.mine (insert qs place m) (λ p i. elim (insert-among qs place m p i) [
    | inl j ↦ above_among q.mine p qs h.0 j
    | inr e ↦ omega (arith, b.before q (inl refl), ap (λ (y : Pair). y.mine) e)
  ]),
  in_order-insert qs place m h.1 (record { within = omega (arith, b.within); before = λ p i. b.before p (inr i); behind = b.behind }),
)

pub map-insert : (xs : List EdgePair) (place : ℕ) (x : EdgePair) → map as_pair (insert xs place x) ≡ insert (map as_pair xs) place (as_pair x)
map-insert [] zero x = refl
map-insert [] (suc place) x = refl
map-insert (y ∷ ys) zero x = refl
map-insert (y ∷ ys) (suc place) x = ap (λ (l : List Pair). as_pair y ∷ l) (map-insert ys place x)

pub below-insert : (ps : List Pair) (place : ℕ) (m : Pair) → m.mine < 12
    → ((p : Pair) → IsAmong p ps → p.mine < 12) → (p : Pair) → IsAmong p (insert ps place m) → p.mine < 12
below-insert ps place m small below p i = elim (insert-among ps place m p i)
    [ inl j ↦ below p j | inr e ↦ omega (arith, small, ap (λ (y : Pair). y.mine) e) ]

-- so there is room for it
pub room_for : (ps : List Pair) (place : ℕ) (m : Pair) → m.mine < 12 → IsInOrder ps
    → ((p : Pair) → IsAmong p ps → p.mine < 12) → BelongsAt ps m.mine place → length ps < 12
room_for ps place m small h below b =
    let few = in_order_few 0 (insert ps place m) (in_order-insert ps place m h b) (λ p i. omega arith)
    (below-insert ps place m small below) (omega arith) in
    omega (arith, few, length-insert ps place m b.within)

-- ---- a list in order is known by its members
-- the heads are the same
head-same : (p q : Pair) (ps qs : List Pair) → IsInOrder (p ∷ ps) → IsInOrder (q ∷ qs) → IsAmong p (q ∷ qs) → IsAmong q (p ∷ ps) → p ≡ q
head-same p q ps qs h k (inl e) j = e
head-same p q ps qs h k (inr i) (inl e) = sym e
head-same p q ps qs h k (inr i) (inr j) = absurd (omega (arith, above_among q.mine p qs k.0 i, above_among p.mine q ps h.0 j))

-- a further member is a further one of the other
tail-among : (p q x : Pair) (ps qs : List Pair) → p ≡ q → AllAbove p.mine ps → IsAmong x ps → IsAmong x (q ∷ qs) → IsAmong x qs
tail-among p q x ps qs same h i (inl e) = absurd
    (omega (arith, above_among p.mine x ps h i, ap (λ (y : Pair). y.mine) e, ap (λ (y : Pair). y.mine) same))
tail-among p q x ps qs same h i (inr j) = j

pub in_order-one : (ps qs : List Pair) → IsInOrder ps → IsInOrder qs
    → ((p : Pair) → IsAmong p ps → IsAmong p qs) → ((p : Pair) → IsAmong p qs → IsAmong p ps) → ps ≡ qs
in_order-one [] [] h k f g = refl
in_order-one [] (q ∷ qs) h k f g = elim (g q (inl refl)) [ ]
in_order-one (p ∷ ps) [] h k f g = elim (f p (inl refl)) [ ]
in_order-one (p ∷ ps) (q ∷ qs) h k f g =
    let same = head-same p q ps qs h k (f p (inl refl)) (g q (inl refl)) in
    let rest = in_order-one ps qs h.1 k.1
    (λ x i. tail-among p q x ps qs same h.0 i (f x (inr i)))
    (λ x i. tail-among q p x qs ps (sym same) k.0 i (g x (inr i))) in
    λ j. same j ∷ rest j

pub between_one : (t : Tables) (a b : Address) (ps qs : List Pair) → IsBetween t a b ps → IsBetween t a b qs → ps ≡ qs
between_one t a b ps qs h k = in_order-one ps qs h.in_order k.in_order
    (λ p i. (k.touching p.mine p.theirs).1 ((h.touching p.mine p.theirs).0 i))
    (λ p i. (h.touching p.mine p.theirs).1 ((k.touching p.mine p.theirs).0 i))
