-- A bisection of pairs in order comes to the pair that is sought, or to the place where it would stand.
use Rattle.std.proofs.Common.{◌≡◌, inl, inr, ℕ, ◌+◌, ◌<◌, ◌≤◌, ℤ, List, [], ◌∷◌, length, get_or, Ok, Err, Option, IfSome, slice_get, refl, sym, ap, ap₂, ◌∙◌, subst, arith}
use Rattle.std.specs.Ordering.{ordering_then, ordering_reverse, int_cmp}
use Rattle.std.specs.declared.cmp.Ordering.{Ordering}
use Rattle.std.specs.declared.cmp.Ordering.TheVariants.{Less, Equal, Greater}
use Rattle.std.specs.Cmp.Lexicographic.{slice_cmp}
use Rattle.std.proofs.lemmas.Bool.{cases_lt}
use Rattle.std.proofs.lemmas.List.{get_or_default}
use Rattle.std.proofs.lemmas.Map.Lookups.{exact_signed}
use Rattle.std.proofs.lemmas.Option.{slice_get-get_or}
use Rattle.tile_place.specs.declared.placed_tile.PlacedTile.{PlacedTile}
use Rattle.window_cover.specs.InOrder.{numbers_placed}
use Rattle.half_glue.specs.declared.pairs.Pair.{Pair}
use Rattle.half_glue.specs.Found.{no_tile}
use Rattle.half_glue.specs.Keys.{no_pair}
use Rattle.half_glue.specs.Merged.{pair_numbers, pair_of_number, ArePairsInOrder, IsPlaceAmong}
use Rattle.half_glue.proofs.Merging.{total, turned}

-- numbers that are level are the same
both-equal : (o p : Ordering) → ordering_then o p ≡ Equal → (o ≡ Equal) × (p ≡ Equal)
both-equal Less p e = absurd (cc e)
both-equal Equal p e = (refl, e)
both-equal Greater p e = absurd (cc e)

exact : (xs ys : List ℤ) → slice_cmp int_cmp xs ys ≡ Equal → xs ≡ ys
exact [] [] e = refl
exact [] (y ∷ ys) e = absurd (cc e)
exact (x ∷ xs) [] e = absurd (cc e)
exact (x ∷ xs) (y ∷ ys) e =
    let parts = both-equal (int_cmp x y) (slice_cmp int_cmp xs ys) e in
    ap₂ (λ (z : ℤ) (zs : List ℤ). z ∷ zs) (exact_signed x y parts.0) (exact xs ys parts.1)

module _ (tiles : List PlacedTile) (pairs : List Pair) (from : ℕ) (sought : List ℤ) where
  -- how a pair stands to what is sought
  abbrev pub stands : ℕ → Ordering
  stands k = slice_cmp int_cmp (pair_numbers tiles (pair_of_number pairs k)) sought

  -- those from the number on and in front of one place come before it, and those from another place on behind it
  pub record ArePartedAt (first end : ℕ) : Type 0 where
    pub from_on : from ≤ first
    pub met : first ≤ end
    pub within : end ≤ length pairs
    pub before : (k : ℕ) → from ≤ k → k < first → stands k ≡ Less
    pub behind : (k : ℕ) → end ≤ k → k < length pairs → stands k ≡ Greater

  pub all-parted : from ≤ length pairs → ArePartedAt from (length pairs)
  all-parted l = record {
    from_on = omega arith;
    met = l;
    within = omega arith;
    before = λ k a b. absurd (omega (arith, a, b));
    behind = λ k a b. absurd (omega (arith, a, b));
  }

  -- what is read of the pair at a place
  pub read-at : (r : Ordering) (k : ℕ) (d : Pair) → k < length pairs → (pair_of_number pairs k).first < length tiles
      → IfSome (slice_get tiles (get_or pairs k d).first) (λ x. r ≡ slice_cmp int_cmp (numbers_placed x) sought) → stands k ≡ r
  read-at r k d inside l h =
      let e : (get_or pairs k d).first ≡ (pair_of_number pairs k).first = ap (λ (p : Pair). p.first) (get_or_default pairs k d no_pair inside) in
      sym (subst (λ (o : Option PlacedTile). IfSome o (λ x. r ≡ slice_cmp int_cmp (numbers_placed x) sought))
      (ap (slice_get tiles) e ∙ slice_get-get_or tiles (pair_of_number pairs k).first no_tile l) h)

  module _ (order : ArePairsInOrder tiles pairs) (first end : ℕ) (parted : ArePartedAt first end) (middle : ℕ)
      (above : first ≤ middle) (below : middle < end) where
    inside : middle < length pairs
    inside = let w = parted.within in omega (arith, below, w)

    pub higher : stands middle ≡ Less → ArePartedAt (middle + 1) end
    higher e = record {
      from_on = let f = parted.from_on in omega (arith, f, above);
      met = omega (arith, below);
      within = parted.within;
      before = λ k a l. elim (cases_lt k middle) [
        | inl b ↦ total.trans (pair_numbers tiles (pair_of_number pairs k))
            (pair_numbers tiles (pair_of_number pairs middle)) sought (order k middle b inside) e
        | inr b ↦ let same : middle ≡ k = omega (arith, l, b) in subst (λ i. stands i ≡ Less) same e
      ];
      behind = parted.behind;
    }

    pub lower : stands middle ≡ Greater → ArePartedAt first middle
    lower e = record {
      from_on = parted.from_on;
      met = above;
      within = omega (arith, inside);
      before = parted.before;
      behind = λ k l h. elim (cases_lt middle k) [
        | inl b ↦ after k b h
        | inr b ↦ let same : middle ≡ k = omega (arith, l, b) in subst (λ i. stands i ≡ Greater) same e
      ];
    }
      where
        after : (k : ℕ) → middle < k → k < length pairs → stands k ≡ Greater
        after k b h =
            let own = pair_numbers tiles (pair_of_number pairs middle) in
            let its = pair_numbers tiles (pair_of_number pairs k) in
            total.antisymm its sought ∙ ap ordering_reverse (total.trans sought own its (turned own sought e) (order middle k b h))

    pub there : stands middle ≡ Equal → IsPlaceAmong tiles pairs from sought (Ok middle)
    there e = let f = parted.from_on in (omega (arith, f, above), inside, exact (pair_numbers tiles (pair_of_number pairs middle)) sought e)

  pub not-there : (first end : ℕ) → ArePartedAt first end → end ≤ first → IsPlaceAmong tiles pairs from sought (Err first)
  not-there first end parted l = let m = parted.met in let w = parted.within in (
    parted.from_on,
    omega (arith, m, w),
    parted.before,
    λ k a b. parted.behind k (omega (arith, a, l)) b,
  )
