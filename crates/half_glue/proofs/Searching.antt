-- A bisection of keys in order comes to a key of the place and kind that is sought, where there is one.
use Rattle.std.proofs.Common.{◌≡◌, inl, inr, ℕ, ◌<◌, ◌≤◌, true, false, ◌&&◌, List, length, get_or, Result, Ok, Err, IfOk, refl, sym, ap, ap₂, ◌∙◌, subst, arith}
use Rattle.std.specs.List.{Contains, HoldsAt}
use Rattle.std.specs.List.Sorted.{IsSorted, IsBinarySearchResult, IsSearchInRange, IsPartitionPoint}
use Rattle.std.specs.Ordering.{ordering_then, nat_cmp, is_lt}
use Rattle.std.specs.declared.cmp.Ordering.{Ordering}
use Rattle.std.specs.declared.cmp.Ordering.TheVariants.{Less, Equal, Greater}
use Rattle.std.specs.Cmp.{IsTotalOrder, nat_cmp_is, nat_cmp_total, on_total, then_total}
use Rattle.std.proofs.lemmas.Bool.{cases_lt}
use Rattle.std.proofs.lemmas.Bool.Decides.{Decides-eqb}
use Rattle.std.proofs.lemmas.Cmp.{ranked}
use Rattle.std.proofs.lemmas.List.{get_or_default}
use Rattle.std.proofs.lemmas.List.Sorted.{ranks_by, sorted_far, searchable_from_sorted}
use Rattle.cyclo_points.specs.declared.motion.Motion.{Motion}
use Rattle.tile_place.specs.Keys.{key_of, are_level}
use Rattle.tile_place.specs.declared.order_key.OrderKey.{OrderKey}
use Rattle.half_glue.specs.Keys.{whole_order}

-- where a bisection ends
abbrev pub place_of : Result ℕ ℕ → ℕ
place_of (Ok i) = i
place_of (Err i) = i

key-total : IsTotalOrder whole_order
key-total = then_total (on_total (λ (k : OrderKey). k.high) nat_cmp_total)
    (then_total (on_total (λ (k : OrderKey). k.low) nat_cmp_total)
    (on_total (λ (k : OrderKey). k.number) nat_cmp_total))

same-order : (n : ℕ) → nat_cmp n n ≡ Equal
same-order n = sym (nat_cmp_is n n Equal refl)

module _ (high low : ℕ) where
  -- the keys of the place and kind, and the one that is sought
  abbrev key : ℕ → OrderKey
  key n = record { high = high; low = low; number = n }

  abbrev sought : OrderKey
  sought = key 0

  none_before : (n : ℕ) → whole_order (key n) sought ≡ Less → ⊥
  none_before n e =
      let plain : nat_cmp n 0 ≡ Less = sym (ap₂ (λ o p. ordering_then o (ordering_then p (nat_cmp n 0))) (same-order high) (same-order low)) ∙ e in
      let l : n < 0 = ranked n 0 Less (sym plain) in
      omega (arith, l)

  -- a key behind the one sought, and not behind another of the place and kind, is of it too
  between : (n : ℕ) (q : OrderKey) → whole_order q sought ≡ Greater → is_lt (whole_order (key n) q) ≡ false → are_level q sought ≡ true
  between n q behind before = by_high (nat_cmp q.high high) refl
    where
      rest : Ordering → Ordering
      rest o = ordering_then o (nat_cmp q.number 0)

      by_low : q.high ≡ high → (p : Ordering) → nat_cmp q.low low ≡ p → are_level q sought ≡ true
      by_low h Less e =
          let first : nat_cmp q.high high ≡ Equal = sym (nat_cmp_is q.high high Equal h) in
          absurd (cc (sym (ap₂ (λ o p. ordering_then o (ordering_then p (nat_cmp q.number 0))) first e) ∙ behind))
      by_low h Greater e =
          let first : nat_cmp high q.high ≡ Equal = sym (nat_cmp_is high q.high Equal (sym h)) in
          let second : nat_cmp low q.low ≡ Less = sym (nat_cmp_is low q.low Less (ranked q.low low Greater (sym e))) in
          absurd (cc (sym (ap₂ (λ o p. is_lt (ordering_then o (ordering_then p (nat_cmp n q.number)))) first second) ∙ before))
      by_low h Equal e = ap₂ (λ a b. a && b) ((Decides-eqb q.high high).1 h) ((Decides-eqb q.low low).1 (ranked q.low low Equal (sym e)))

      by_high : (o : Ordering) → nat_cmp q.high high ≡ o → are_level q sought ≡ true
      by_high Less e = absurd (cc (sym (ap (λ o. ordering_then o (ordering_then (nat_cmp q.low low) (nat_cmp q.number 0))) e) ∙ behind))
      by_high Greater e =
          let first : nat_cmp high q.high ≡ Less = sym (nat_cmp_is high q.high Less (ranked q.high high Greater (sym e))) in
          absurd (cc (sym (ap (λ o. is_lt (ordering_then o (ordering_then (nat_cmp low q.low) (nat_cmp n q.number)))) first) ∙ before))
      by_high Equal e = by_low (ranked q.high high Equal (sym e)) (nat_cmp q.low low) refl

  exactly : (q : OrderKey) → whole_order q sought ≡ Equal → are_level q sought ≡ true
  exactly q e = by_high (nat_cmp q.high high) (nat_cmp q.low low) refl refl
    where
      by_high : (o p : Ordering) → nat_cmp q.high high ≡ o → nat_cmp q.low low ≡ p → are_level q sought ≡ true
      by_high Less p h l = absurd (cc (sym (ap (λ o. ordering_then o (ordering_then (nat_cmp q.low low) (nat_cmp q.number 0))) h) ∙ e))
      by_high Greater p h l = absurd (cc (sym (ap (λ o. ordering_then o (ordering_then (nat_cmp q.low low) (nat_cmp q.number 0))) h) ∙ e))
      by_high Equal Less h l = absurd (cc (sym (ap₂ (λ o p. ordering_then o (ordering_then p (nat_cmp q.number 0))) h l) ∙ e))
      by_high Equal Greater h l = absurd (cc (sym (ap₂ (λ o p. ordering_then o (ordering_then p (nat_cmp q.number 0))) h l) ∙ e))
      by_high Equal Equal h l = ap₂ (λ a b. a && b)
          ((Decides-eqb q.high high).1 (ranked q.high high Equal (sym h)))
          ((Decides-eqb q.low low).1 (ranked q.low low Equal (sym l)))

  module _ (ks : List OrderKey) (sorted : IsSorted whole_order ks) (n : ℕ) (there : Contains ks (key n)) where
    -- the bisection ends at a key of that place and kind
    pub found-level : (r : Result ℕ ℕ) → IsSearchInRange r (length ks)
        → IfOk r (HoldsAt (λ y. whole_order y sought ≡ Equal) ks)
        → IsBinarySearchResult (λ y. whole_order y sought) ks r
        → (place_of r < length ks) × ((d : OrderKey) → are_level (get_or ks (place_of r) d) sought ≡ true)
    found-level (Ok i) range ok position = (range, λ d. exactly (get_or ks i d) (ok d))
    found-level (Err i) range ok position = (below, λ d. between n (get_or ks i d) (parted.1 i d (omega arith) below) (not_behind d))
      where
        parted : IsPartitionPoint (λ y. whole_order y sought ≡ Less) (λ y. whole_order y sought ≡ Greater) ks i
        parted = position (searchable_from_sorted key-total (λ (k : OrderKey). k) ks sought sorted)

        up : i ≤ there.0
        up = elim (cases_lt there.0 i) [
          | inl l ↦ absurd (none_before n (ap (λ k. whole_order k sought) (sym there.2) ∙ parted.0 there.0 (key n) (omega arith) l))
          | inr l ↦ l
        ]

        below : i < length ks
        below = let l = there.1 in omega (arith, up, l)

        not_behind : (d : OrderKey) → is_lt (whole_order (key n) (get_or ks i d)) ≡ false
        not_behind d =
            ap (λ k. is_lt (whole_order k (get_or ks i d))) (sym there.2 ∙ get_or_default ks there.0 (key n) d there.1)
            ∙ sorted_far (λ x y. is_lt (whole_order x y)) (ranks_by key-total (λ (k : OrderKey). k)) ks sorted i there.0 d up there.1

-- the same of the key that the program seeks, by the motion and the kind
pub found-there : (m : Motion) (kind : ℕ) (s : OrderKey) → s ≡ key_of m kind 0 → (ks : List OrderKey)
    → IsSorted whole_order ks → (n : ℕ) → Contains ks (key_of m kind n)
    → (r : Result ℕ ℕ) → IsSearchInRange r (length ks) → IfOk r (HoldsAt (λ y. whole_order y s ≡ Equal) ks)
    → IsBinarySearchResult (λ y. whole_order y s) ks r
    → (place : ℕ) → place ≡ place_of r → (place < length ks) × ((d : OrderKey) → are_level (get_or ks place d) s ≡ true)
found-there m kind s e ks sorted n there r range ok position place is =
    subst (λ k. (k < length ks) × ((d : OrderKey) → are_level (get_or ks k d) s ≡ true)) (sym is)
    (subst (λ q. IfOk r (HoldsAt (λ y. whole_order y q ≡ Equal) ks)
    → IsBinarySearchResult (λ y. whole_order y q) ks r → (place_of r < length ks)
    × ((d : OrderKey) → are_level (get_or ks (place_of r) d) q ≡ true)) (sym e)
    (found-level (key_of m kind 0).high (key_of m kind 0).low ks sorted n there r range) ok position)
