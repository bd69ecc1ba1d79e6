-- Two lists of pairs in order, merged.
use Rattle.std.proofs.Common.{◌≡◌, ◌⊎◌, inl, inr, ℕ, zero, suc, ◌+◌, ◌<◌, ◌≤◌, ℤ, List, [], ◌∷◌, ◌++◌, All, length, take, drop, get_or, sym, ap, ap₂, ◌∙◌, subst, arith}
use Rattle.std.specs.List.{Contains}
use Rattle.std.specs.Ordering.{ordering_reverse, int_cmp}
use Rattle.std.specs.declared.cmp.Ordering.TheVariants.{Less, Greater}
use Rattle.std.specs.Cmp.{IsTotalOrder}
use Rattle.std.specs.Cmp.Lexicographic.{slice_cmp}
use Rattle.std.proofs.lemmas.Bool.{cases_lt}
use Rattle.std.proofs.lemmas.Cmp.{int_cmp_total, lists_total}
use Rattle.std.proofs.lemmas.List.{append-nil, append_assoc, get_or_default, get_or_append_left, get_or_push, get_or-drop, length_push, length-drop, take_more}
use Rattle.std.proofs.lemmas.List.Elements.{All-push, Contains-get_or, Contains-append_left, Contains-push}
use Rattle.tile_place.specs.declared.placed_tile.PlacedTile.{PlacedTile}
use Rattle.window_cover.specs.InOrder as covered
use Rattle.half_glue.specs.declared.pairs.Pair.{Pair}
use Rattle.half_glue.specs.Found.{given_tile}
use Rattle.half_glue.specs.Inner.{AreRising}
use Rattle.half_glue.specs.Keys.{no_pair}
use Rattle.half_glue.specs.Merged.{pair_numbers, pair_of_number, PairComesBefore, ArePairsInOrder, AreMerged, IsMerging}
use Rattle.half_glue.proofs.AmongTiles.{front-there}

-- the order of lists of numbers
pub total : IsTotalOrder (slice_cmp int_cmp)
total = lists_total int_cmp_total

-- what comes behind one thing has it before itself
pub turned : (ns ks : List ℤ) → slice_cmp int_cmp ns ks ≡ Greater → slice_cmp int_cmp ks ns ≡ Less
turned ns ks e = total.antisymm ks ns ∙ ap ordering_reverse e

-- of tiles in order each comes before each one behind it
tiles-far : (tiles : List PlacedTile) → covered.AreInOrder tiles → (i j : ℕ) → i < j → j < length tiles
    → covered.ComesBefore (given_tile tiles i) (given_tile tiles j)
tiles-far [] o i j l h = absurd (omega (arith, h))
tiles-far (a ∷ []) o i j l h = absurd (omega (arith, l, h))
tiles-far (a ∷ b ∷ tiles) o zero zero l h = absurd (omega (arith, l))
tiles-far (a ∷ b ∷ tiles) o zero (suc zero) l h = o.0
tiles-far (a ∷ b ∷ tiles) o zero (suc (suc j)) l h =
    total.trans (covered.numbers_placed a) (covered.numbers_placed b)
    (covered.numbers_placed (given_tile (b ∷ tiles) (suc j))) o.0
    (tiles-far (b ∷ tiles) o.1 zero (suc j) (omega arith) (omega (arith, h)))
tiles-far (a ∷ b ∷ tiles) o (suc i) zero l h = absurd (omega (arith, l))
tiles-far (a ∷ b ∷ tiles) o (suc i) (suc j) l h = tiles-far (b ∷ tiles) o.1 i j (omega (arith, l)) (omega (arith, h))

-- pairs whose first numbers rise are in the order of the tiles
module _ (tiles crossed : List PlacedTile) (pairs : List Pair) (rising : AreRising (length tiles) pairs) where
  pub same-numbers : (k : ℕ) → k < length pairs
      → pair_numbers (tiles ++ crossed) (pair_of_number pairs k) ≡ pair_numbers tiles (pair_of_number pairs k)
  same-numbers k l = ap covered.numbers_placed (front-there tiles crossed (pair_of_number pairs k).first (rising.below k no_pair l))

  pub rising-order : covered.AreInOrder tiles → ArePairsInOrder tiles pairs
  rising-order o i j l h = tiles-far tiles o (pair_of_number pairs i).first (pair_of_number pairs j).first
      (rising.rising i j l h) (rising.below j no_pair h)

  pub rising-all : covered.AreInOrder tiles → ArePairsInOrder (tiles ++ crossed) pairs
  rising-all o i j l h =
      ap₂ (slice_cmp int_cmp) (same-numbers i (omega (arith, l, h))) (same-numbers j h) ∙ rising-order o i j l h

module _ (all : List PlacedTile) where
  -- one pair more at the end
  pub in-order-more : (ps : List Pair) (q : Pair) → ArePairsInOrder all ps
      → All (λ p. PairComesBefore all p q) ps → ArePairsInOrder all (ps ++ q ∷ [])
  in-order-more ps q o b i j l h = elim (cases_lt j (length ps)) [
    | inl k ↦ subst (λ x. PairComesBefore all x (pair_of_number (ps ++ q ∷ []) j))
        (sym (get_or_append_left ps (q ∷ []) no_pair i (omega (arith, l, k))))
        (subst (λ y. PairComesBefore all (pair_of_number ps i) y) (sym (get_or_append_left ps (q ∷ []) no_pair j k)) (o i j l k))
    | inr k ↦
        let last : length ps ≡ j = omega (arith, h, k, length_push ps q) in
        subst (λ x. PairComesBefore all x (pair_of_number (ps ++ q ∷ []) j)) (sym (get_or_append_left ps (q ∷ []) no_pair i (omega (arith, l, last))))
        (subst (λ y. PairComesBefore all (pair_of_number ps i) y) (sym (get_or_push ps q no_pair j last)) (b i no_pair (omega (arith, l, last))))
  ]

  module _ (inner outer : List Pair) where
    -- one pair more, which stands for some of the first list and some of the second
    more : (done next after behind : ℕ) (ps : List Pair) (q : Pair) → IsMerging all inner outer done next ps
        → done ≤ after → after ≤ length inner → next ≤ behind
        → All (λ p. PairComesBefore all p q) ps → ((k : ℕ) → after ≤ k → k < length inner → PairComesBefore all q (pair_of_number inner k))
        → ((k : ℕ) → behind ≤ k → k < length outer → PairComesBefore all q (pair_of_number outer k)) → (Contains inner q ⊎ Contains outer q)
        → ((k : ℕ) → done ≤ k → k < after → pair_of_number inner k ≡ q)
        → ((k : ℕ) → next ≤ k → k < behind → pair_numbers all q ≡ pair_numbers all
        (pair_of_number outer k))
        → IsMerging all inner outer after behind (ps ++ q ∷ [])
    more done next after behind ps q h up within further before inner_behind outer_behind from is level = record {
      within = within;
      in_order = in-order-more ps q h.in_order before;
      before_inner = λ k l b. All-push (λ p. PairComesBefore all p (pair_of_number inner k)) ps q
          (h.before_inner k (omega (arith, l, up)) b) (inner_behind k l b);
      before_outer = λ k l b. All-push (λ p. PairComesBefore all p (pair_of_number outer k)) ps q
          (h.before_outer k (omega (arith, l, further)) b) (outer_behind k l b);
      from = All-push (λ p. Contains inner p ⊎ Contains outer p) ps q h.from from;
      each_inner = λ k l. elim (cases_lt k done) [
        | inl b ↦ Contains-append_left ps (q ∷ []) (pair_of_number inner k) (h.each_inner k b)
        | inr b ↦ subst (Contains (ps ++ q ∷ [])) (sym (is k (omega (arith, b)) l)) (Contains-push ps q)
      ];
      each_outer = λ k l. elim (cases_lt k next) [
        | inl b ↦ let r = h.each_outer k b in (r.0, Contains-append_left ps (q ∷ []) r.0 r.1, r.2)
        | inr b ↦ (q, Contains-push ps q, level k (omega (arith, b)) l)
      ];
    }

    module _ (inner_order : ArePairsInOrder all inner) (outer_order : ArePairsInOrder all outer) where
      -- none yet
      pub none-merged : IsMerging all inner outer 0 0 []
      none-merged = record {
        within = omega arith;
        in_order = λ i j l h. absurd (omega (arith, h));
        before_inner = λ k l b i d h. absurd (omega (arith, h));
        before_outer = λ k l b i d h. absurd (omega (arith, h));
        from = λ i d h. absurd (omega (arith, h));
        each_inner = λ k l. absurd (omega (arith, l));
        each_outer = λ k l. absurd (omega (arith, l));
      }

      module _ (done next : ℕ) (ps : List Pair) (h : IsMerging all inner outer done next ps) where
        -- the next of the first list
        inner-more : (n : ℕ) → done < length inner
            → ((k : ℕ) → next ≤ k → k < length outer
            → PairComesBefore all (pair_of_number inner done) (pair_of_number outer k))
            → n ≡ suc done → IsMerging all inner outer n next (ps ++ pair_of_number inner done ∷ [])
        inner-more n below ahead e =
            more done next n next ps (pair_of_number inner done) h (omega (arith, e))
            (omega (arith, e, below)) (omega arith) (h.before_inner done (omega arith) below)
            (λ k l b. inner_order done k (omega (arith, e, l)) b) ahead (inl (Contains-get_or inner done no_pair below))
            (λ k l b. let same : k ≡ done = omega (arith, e, l, b) in ap (pair_of_number inner) same) (λ k l b. absurd (omega (arith, l, b)))

        -- and that of the second list is level with it
        pub level-more : done < length inner → next < length outer
            → pair_numbers all (pair_of_number inner done) ≡ pair_numbers all (pair_of_number outer next)
            → IsMerging all inner outer (done + 1) (next + 1) (ps ++ pair_of_number inner done ∷ [])
        level-more below there level =
            more done next (done + 1) (next + 1) ps (pair_of_number inner done) h (omega arith)
            (omega (arith, below)) (omega arith) (h.before_inner done (omega arith) below)
            (λ k l b. inner_order done k (omega (arith, l)) b)
            (λ k l b. ap (λ ns. slice_cmp int_cmp ns (pair_numbers all (pair_of_number outer k))) level ∙ outer_order next k (omega (arith, l)) b)
            (inl (Contains-get_or inner done no_pair below))
            (λ k l b. let same : k ≡ done = omega (arith, l, b) in ap (pair_of_number inner) same)
            (λ k l b. let same : next ≡ k = omega (arith, l, b) in level ∙ ap (λ n. pair_numbers all (pair_of_number outer n)) same)

        -- the next of the second list
        pub outer-more : next < length outer → ((k : ℕ) → done ≤ k → k < length inner
            → PairComesBefore all (pair_of_number outer next) (pair_of_number inner k))
            → IsMerging all inner outer done (next + 1) (ps ++ pair_of_number outer next ∷ [])
        outer-more there ahead =
            more done next done (next + 1) ps (pair_of_number outer next) h (omega arith) h.within
            (omega arith) (h.before_outer next (omega arith) there) ahead
            (λ k l b. outer_order next k (omega (arith, l)) b)
            (inr (Contains-get_or outer next no_pair there)) (λ k l b. absurd (omega (arith, l, b)))
            (λ k l b. let same : next ≡ k = omega (arith, l, b) in ap (λ n. pair_numbers all (pair_of_number outer n)) same)

        -- all of them
        pub all-merged : done ≡ length inner → next ≡ length outer → AreMerged all inner outer ps
        all-merged e g = record {
          in_order = h.in_order;
          from = h.from;
          each_inner = λ k d l. subst (Contains ps) (default inner k d l) (h.each_inner k (omega (arith, e, l)));
          each_outer = λ k d l. let r = h.each_outer k (omega (arith, g, l)) in (r.0, r.1, r.2 ∙ ap (pair_numbers all) (default outer k d l));
        }
          where
            default : (qs : List Pair) (k : ℕ) (d : Pair) → k < length qs → pair_of_number qs k ≡ get_or qs k d
            default qs k d l = get_or_default qs k no_pair d l

      -- so many of the first list, where each comes before all that are left of the second
      pub many-more : (n done next : ℕ) (ps : List Pair) → IsMerging all inner outer done next ps → done + n ≤ length inner
          → ((i k : ℕ) → done ≤ i → i < done + n → next ≤ k → k < length outer
          → PairComesBefore all (pair_of_number inner i) (pair_of_number outer k))
          → IsMerging all inner outer (done + n) next (ps ++ take n (drop done inner))
      many-more zero done next ps h within ahead =
          let plain : done ≡ done + 0 = omega arith in
          subst (λ d. IsMerging all inner outer d next (ps ++ [])) plain (subst (IsMerging all inner outer done next) (sym (append-nil ps)) h)
      many-more (suc n) done next ps h within ahead =
          let before = many-more n done next ps h (omega (arith, within)) (λ i k l b m c. ahead i k l (omega (arith, b)) m c) in
          let last : Pair = pair_of_number inner (done + n) in
          let taken : take (suc n) (drop done inner) ≡ take n (drop done inner) ++ last
          ∷ [] = take-one n (drop done inner) (omega (arith, within, length-drop done inner))
          ∙ ap (λ (p : Pair). take n (drop done inner) ++ p ∷ []) (get_or-drop done inner n no_pair) in
          subst (IsMerging all inner outer (done + suc n) next)
          (append_assoc ps (take n (drop done inner)) (last ∷ [])
          ∙ ap (λ (qs : List Pair). ps ++ qs) (sym taken))
          (inner-more (done + n) next (ps ++ take n (drop done inner)) before (done + suc n)
          (omega (arith, within)) (λ k l b. ahead (done + n) k (omega arith) (omega arith) l b)
          (omega arith))
        where
          take-one : (n : ℕ) (qs : List Pair) → n < length qs → take (suc n) qs ≡ take n qs ++ get_or qs n no_pair ∷ []
          take-one n qs l = let next : suc n ≡ n + 1 = omega arith in ap (λ k. take k qs) next ∙ take_more qs n no_pair l
