-- Nodes that are found, each once: numbers tell them, a mark for each, and what joined.
use Rattle.std.proofs.Common.{◌≡◌, inl, inr, ℕ, zero, suc, ◌+◌, ◌*◌, ◌/◌, ◌%◌, ◌<◌, Bool, true, false, List, [], ◌∷◌, ◌++◌, length, set, Some, refl, sym, ap, ◌∙◌, subst, arith, append_assoc, length-set, length-append}
use Rattle.std.proofs.Math.ListN.{replicate}
use Rattle.std.specs.List.{slice_get}
use Rattle.std.proofs.lemmas.Bool.{cases_eq}
use Rattle.std.proofs.lemmas.List.{append-nil, length-replicate}
use Rattle.std.proofs.lemmas.Nat.{div-mul-add, mod-mul-add, mul-add-lt}
use Rattle.theory_addresses.specs.Search.{IsAmong}
use Rattle.theory_addresses.proofs.Lists.{IsAmong-append_left, IsAmong-append_right}
use Rattle.theory_addresses.proofs.Ranges.{among-append}
use Rattle.pair_machine.specs.Nodes.{Node}
use Rattle.pair_machine.specs.Numbers.{mine_of, theirs_of, node_number, AreNumbersSmall}
use Rattle.pair_machine.specs.Searching.{unseen, IsSeen, CoversCandidates}
use Rattle.pair_machine.proofs.Places.{slice_get-set_same, slice_get-set_other, none_twice_more}

-- ---- numbers tell nodes
one_left : (x y d e : ℕ) → d < 12 → e < 12 → x * 12 + d ≡ y * 12 + e → (x ≡ y) × (d ≡ e)
one_left x y d e hd he h = (omega (arith, hd, he, h), omega (arith, hd, he, h))

pub one_each : (width a b c d : ℕ) → b < width → d < width → a * width + b ≡ c * width + d → (a ≡ c) × (b ≡ d)
one_each width a b c d hb hd h = (
  sym (div-mul-add a width b hb) ∙ ap (λ (n : ℕ). n / width) h ∙ div-mul-add c width d hd,
  sym (mod-mul-add a width b hb) ∙ ap (λ (n : ℕ). n % width) h ∙ mod-mul-add c width d hd,
)

node-eq : (m n : Node) → m.kind ≡ n.kind → m.edge ≡ n.edge → m.other ≡ n.other → m.back ≡ n.back → m ≡ n
node-eq m n k e o b = λ i. record { kind = k i; edge = e i; other = o i; back = b i }

pub number_one : (width : ℕ) (m n : Node) → AreNumbersSmall width m → AreNumbersSmall width n → node_number width m ≡ node_number width n → m ≡ n
number_one width m n h k same =
    let both = one_each width (mine_of m) (theirs_of m) (mine_of n) (theirs_of n) h.theirs k.theirs same in
    let mine = one_left m.kind n.kind m.edge n.edge h.edge k.edge both.0 in
    let theirs = one_left m.other n.other m.back n.back h.back k.back both.1 in
    node-eq m n mine.0 mine.1 theirs.0 theirs.1

pub number_within : (width : ℕ) (n : Node) → AreNumbersSmall width n → node_number width n < width * width
number_within width n h = mul-add-lt (mine_of n) width (theirs_of n) width h.mine h.theirs

-- ---- marks
unseen_set : (bs : List Bool) (i : ℕ) → slice_get bs i ≡ Some false → suc (unseen (set bs i true)) ≡ unseen bs
unseen_set [] i h = absurd cc
unseen_set (true ∷ bs) zero h = absurd cc
unseen_set (false ∷ bs) zero h = refl
unseen_set (true ∷ bs) (suc i) h = unseen_set bs i h
unseen_set (false ∷ bs) (suc i) h = ap suc (unseen_set bs i h)

pub none_seen : (width : ℕ) (seen : List Bool) → length seen ≡ width * width → unseen seen ≡ length seen
    → ((i : ℕ) → slice_get seen i ≡ Some true → ⊥) → IsSeen width [] seen
none_seen width seen size all unmarked = record {
  size = size;
  small = λ n i. elim i [ ];
  marked = λ n i. elim i [ ];
  only = λ i h. elim (unmarked i h) [ ];
  distinct = tt;
  count = omega (arith, all);
}

pub unseen_none : (n : ℕ) → unseen (replicate n false) ≡ length (replicate n false)
unseen_none zero = refl
unseen_none (suc n) = ap suc (unseen_none n)

pub unmarked_none : (n i : ℕ) → slice_get (replicate n false) i ≡ Some true → ⊥
unmarked_none zero i h = cc
unmarked_none (suc n) zero h = cc
unmarked_none (suc n) (suc i) h = unmarked_none n i h

pub none_seen_at : (width : ℕ) (seen : List Bool) → seen ≡ replicate (width * width) false → IsSeen width [] seen
none_seen_at width seen is = rw is (none_seen width (replicate (width * width) false)
    (length-replicate (width * width) false) (unseen_none (width * width)) (unmarked_none (width * width)))

-- a node that is there already
pub add_old : (width : ℕ) (list : List Node) (seen : List Bool) (n : Node) → IsSeen width list seen
    → AreNumbersSmall width n → slice_get seen (node_number width n) ≡ Some true → CoversCandidates width list list seen (n ∷ [])
add_old width list seen n h small marked =
    let m = h.only (node_number width n) marked in
    let same = number_one width m.0 n (h.small m.0 m.1) small m.2 in
    record {
      seen_now = h;
      rest = [];
      grown = sym (append-nil list);
      all = λ p i. elim i [ inl e ↦ subst (λ (q : Node). IsAmong q list) (same ∙ sym e) m.1 | inr j ↦ elim j [ ] ];
      only = λ p i. inl i;
    }

-- a new node
pub add_new : (width : ℕ) (list : List Node) (seen : List Bool) (n : Node) → IsSeen width list seen
    → AreNumbersSmall width n → slice_get seen (node_number width n) ≡ Some false
    → CoversCandidates width list (list ++ n ∷ []) (set seen (node_number width n) true) (n ∷ [])
add_new width list seen n h small fresh = record {
  seen_now = record {
    size = size ∙ h.size;
    small = λ m i. elim (among-append m list (n ∷ []) i) [
      | inl j ↦ h.small m j
      | inr j ↦ elim j [
        | inl e ↦ subst (AreNumbersSmall width) (sym e) small
        | inr k ↦ elim k
            [ ]
      ]
    ];
    marked = λ m i. elim (cases_eq (node_number width m) (node_number width n)) [
      | inl same ↦ ap (slice_get (set seen (node_number width n) true)) same ∙ slice_get-set_same seen (node_number width n) true inside
      | inr other ↦ slice_get-set_other seen (node_number width n) (node_number width m) true other
          ∙ (elim (among-append m list (n ∷ []) i) [
            | inl j ↦ h.marked m j
            | inr j ↦ elim j [
              | inl e ↦ elim (other (ap (node_number width) e)) [ ]
              | inr k
                  ↦ elim k [ ]
            ]
          ])
    ];
    only = λ i is. elim (cases_eq i (node_number width n)) [
      | inl same ↦ (n, IsAmong-append_right n list (n ∷ []) (inl refl), sym same)
      | inr other ↦ let m = h.only i (sym (slice_get-set_other seen (node_number width n) i true other)
          ∙ is) in (m.0, IsAmong-append_left m.0 list (n ∷ []) m.1, m.2)
    ];
    distinct = none_twice_more list n h.distinct (λ i. not_both (h.marked n i));
    count = omega (arith, length-append list (n ∷ []), size, h.count, unseen_set seen (node_number width n) fresh);
  };
  rest = n ∷ [];
  grown = refl;
  all = λ m i. IsAmong-append_right m list (n ∷ []) i;
  only = λ m i. among-append m list (n ∷ []) i;
}
  where
    inside : node_number width n < length seen
    inside = subst (λ (k : ℕ). node_number width n < k) (sym h.size) (number_within width n small)

    size : length (set seen (node_number width n) true) ≡ length seen
    size = length-set seen (node_number width n) true

    not_both : slice_get seen (node_number width n) ≡ Some true → ⊥
    not_both marked = let two : Some true ≡ Some false = sym marked ∙ fresh in cc

-- the mark of a node is there
pub mark_within : (width : ℕ) (list : List Node) (seen : List Bool) (n : Node) → IsSeen width list seen
    → AreNumbersSmall width n → node_number width n < length seen
mark_within width list seen n h small = subst (λ (k : ℕ). node_number width n < k) (sym h.size) (number_within width n small)

-- ---- one after the other
pub covers_none : (width : ℕ) (list : List Node) (seen : List Bool) → IsSeen width list seen → CoversCandidates width list list seen []
covers_none width list seen h = record {
  seen_now = h;
  rest = [];
  grown = sym (append-nil list);
  all = λ n i. elim i [ ];
  only = λ n i. inl i;
}

pub kept_in : {old new : List Node} {width : ℕ} {seen : List Bool} {cs : List Node} (n : Node)
    → CoversCandidates width old new seen cs → IsAmong n old → IsAmong n new
kept_in {old} n h i = subst (IsAmong n) (sym h.grown) (IsAmong-append_left n old h.rest i)

pub covers_more : (old mid new : List Node) (width : ℕ) (seen seen' : List Bool) (xs ys : List Node)
    → CoversCandidates width old mid seen xs → CoversCandidates width mid new seen' ys → CoversCandidates width old new seen' (xs ++ ys)
covers_more old mid new width seen seen' xs ys h k = record {
  seen_now = k.seen_now;
  rest = h.rest ++ k.rest;
  grown = k.grown ∙ ap (λ (l : List Node). l ++ k.rest) h.grown ∙ append_assoc old h.rest k.rest;
  all = λ n i. elim (among-append n xs ys i) [ inl j ↦ kept_in n k (h.all n j) | inr j ↦ k.all n j ];
  only = λ n i. elim (k.only n i) [
    | inl j ↦ elim (h.only n j) [ inl a ↦ inl a | inr b ↦ inr (IsAmong-append_left n xs ys b) ]
    | inr j ↦ inr (IsAmong-append_right n xs ys j)
  ];
}

pub covers_as : (old new : List Node) (width : ℕ) (seen : List Bool) (xs ys : List Node) → xs ≡ ys
    → CoversCandidates width old new seen xs → CoversCandidates width old new seen ys
covers_as old new width seen xs ys same h = subst (CoversCandidates width old new seen) same h
