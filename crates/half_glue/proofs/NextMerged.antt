-- The next pair of the second list is merged, and at last what is left of the first.
use Rattle.std.proofs.Common.{◌≡◌, inl, inr, ℕ, ◌+◌, ◌-◌, ◌<◌, ◌≤◌, ℤ, List, [], ◌∷◌, ◌++◌, Ok, Err, length, get_or, take, drop, sym, ap, ap₂, ◌∙◌, subst, arith}
use Rattle.std.specs.Ordering.{int_cmp}
use Rattle.std.specs.declared.cmp.Ordering.TheVariants.{Less}
use Rattle.std.specs.Cmp.Lexicographic.{slice_cmp}
use Rattle.std.proofs.lemmas.Bool.{cases_lt}
use Rattle.std.proofs.lemmas.List.{append_assoc, get_or_default, get_or-drop, length-drop, take_more}
use Rattle.cyclo_points.specs.declared.motion.Motion.{Motion}
use Rattle.tile_place.specs.Keys.{order_numbers}
use Rattle.tile_place.specs.declared.placed_tile.PlacedTile.{PlacedTile}
use Rattle.window_cover.specs.InOrder as covered
use Rattle.half_glue.specs.declared.pairs.Pair.{Pair}
use Rattle.half_glue.specs.Found.{given_tile}
use Rattle.half_glue.specs.Inner.{AreRising}
use Rattle.half_glue.specs.Keys.{no_pair}
use Rattle.half_glue.specs.Merged.{pair_numbers, pair_of_number, PairComesBefore, ArePairsInOrder, AreMerged, IsMerging, IsPlaceAmong}
use Rattle.half_glue.proofs.Merging.{total, turned, same-numbers, rising-all, level-more, outer-more, many-more, all-merged}

-- what is read of the first tile of a pair
pub numbers-of : (all : List PlacedTile) (pairs : List Pair) (n : ℕ) (d : Pair) → n < length pairs
    → (v : Motion) (k : ℕ) → v ≡ (given_tile all (get_or pairs n d).first).motion
    → k ≡ (given_tile all (get_or pairs n d).first).kind
    → order_numbers v k ≡ pair_numbers all (pair_of_number pairs n)
numbers-of all pairs n d l v k e g = ap₂ order_numbers e g ∙ ap (pair_numbers all) (get_or_default pairs n d no_pair l)

module _ (tiles crossed : List PlacedTile) (inner outer : List Pair) (tiles_order : covered.AreInOrder tiles)
    (rising : AreRising (length tiles) inner) (outer_order : ArePairsInOrder (tiles ++ crossed) outer) where
  abbrev all : List PlacedTile
  all = tiles ++ crossed

  inner_order : ArePairsInOrder all inner
  inner_order = rising-all tiles crossed inner rising tiles_order

  module _ (done next : ℕ) (ps : List Pair) (h : IsMerging all inner outer done next ps) where
    module _ (there : next < length outer) (sought : List ℤ) (numbers : sought ≡ pair_numbers all (pair_of_number outer next)) where
      -- what comes before the next of the second list comes before all behind it
      ahead : (p : Pair) → slice_cmp int_cmp (pair_numbers all p) sought ≡ Less → (k : ℕ) → next ≤ k
          → k < length outer → PairComesBefore all p (pair_of_number outer k)
      ahead p e k l b =
          let first : PairComesBefore all p (pair_of_number outer next) = ap (slice_cmp int_cmp (pair_numbers all p)) (sym numbers) ∙ e in
          elim (cases_lt next k) [
            | inl c ↦ total.trans (pair_numbers all p) (pair_numbers all (pair_of_number outer next))
                (pair_numbers all (pair_of_number outer k)) first (outer_order next k c b)
            | inr c ↦ let same : next ≡ k = omega (arith, l, c) in subst (λ n. PairComesBefore all p (pair_of_number outer n)) same first
          ]

      -- all in front of a place
      up-to : (end : ℕ) → done ≤ end → end ≤ length inner
          → ((k : ℕ) → done ≤ k → k < end → slice_cmp int_cmp (pair_numbers all (pair_of_number inner k))
          sought ≡ Less)
          → IsMerging all inner outer end next (ps ++ take (end - done) (drop done inner))
      up-to end from within less =
          let reached : done + (end - done) ≡ end = omega (arith, from) in
          subst (λ n. IsMerging all inner outer n next (ps ++ take (end - done) (drop done inner))) reached
          (many-more all inner outer inner_order outer_order (end - done) done next ps h
          (omega (arith, reached, within)) (λ i k l b m c. ahead (pair_of_number inner i)
          (less i l (omega (arith, b, reached))) k m c))

      pub found-merged : (same : ℕ) → IsPlaceAmong tiles inner done sought (Ok same)
          → IsMerging all inner outer (same + 1) (next + 1) (ps ++ take (same + 1 - done) (drop done inner))
      found-merged same place =
          let from : done ≤ same = place.0 in
          let below : same < length inner = place.1 in
          let level = same-numbers tiles crossed inner rising same below ∙ place.2 in
          let front = up-to same from (omega (arith, below))
          (λ k l b. ap (slice_cmp int_cmp (pair_numbers all (pair_of_number inner k))) (sym level)
          ∙ inner_order k same b below) in
          let n = same - done in
          let one : same + 1 - done ≡ n + 1 = omega (arith, from) in
          let at : done + n ≡ same = omega (arith, from) in
          let last = take_more (drop done inner) n no_pair
          (omega (arith, from, below, length-drop done inner))
          ∙ ap (λ (p : Pair). take n (drop done inner) ++ p ∷ [])
          (get_or-drop done inner n no_pair ∙ ap (pair_of_number inner) at) in
          let pieces = append_assoc ps (take n (drop done inner)) (pair_of_number inner same ∷ [])
          ∙ ap (λ (qs : List Pair). ps ++ qs) (sym (ap (λ k. take k (drop done inner)) one ∙ last)) in
          subst (IsMerging all inner outer (same + 1) (next + 1)) pieces
          (level-more all inner outer inner_order outer_order same next (ps ++ take n (drop done inner)) front below there (level ∙ numbers))

      pub put-merged : (end : ℕ) → IsPlaceAmong tiles inner done sought (Err end)
          → IsMerging all inner outer end (next + 1)
          ((ps ++ take (end - done) (drop done inner)) ++ pair_of_number outer next ∷ [])
      put-merged end place =
          let from : done ≤ end = place.0 in
          let within : end ≤ length inner = place.1 in
          let front = up-to end from within (λ k l b. ap (λ ns. slice_cmp int_cmp ns sought)
          (same-numbers tiles crossed inner rising k (omega (arith, b, within))) ∙ place.2 k l b) in
          outer-more all inner outer inner_order outer_order end next (ps ++ take (end - done) (drop done inner)) front there
          (λ k l b. ap₂ (slice_cmp int_cmp) (sym numbers) (same-numbers tiles crossed inner rising k b)
          ∙ turned (pair_numbers tiles (pair_of_number inner k)) sought (place.3 k l b))

      pub pushed-merged : (end : ℕ) → IsPlaceAmong tiles inner done sought (Err end)
          → (qs rs : List Pair) (d : Pair) → qs ≡ ps ++ take (end - done) (drop done inner) → rs ≡ qs
          ++ get_or outer next d ∷ []
          → IsMerging all inner outer end (next + 1) rs
      pushed-merged end place qs rs d e g =
          subst (IsMerging all inner outer end (next + 1))
          (sym (g ∙ ap₂ (λ (xs : List Pair) (p : Pair). xs ++ p ∷ []) e
          (get_or_default outer next d no_pair there))) (put-merged end place)

    -- what is left of the first list
    pub rest-merged : (length outer ≤ next) → next ≤ length outer → AreMerged all inner outer (ps ++ take (length inner - done) (drop done inner))
    rest-merged past up =
        let low = h.within in
        let reached : done + (length inner - done) ≡ length inner = omega (arith, low) in
        all-merged all inner outer inner_order outer_order (done + (length inner - done)) next (ps ++ take (length inner - done) (drop done inner))
        (many-more all inner outer inner_order outer_order (length inner - done) done next ps h
        (omega (arith, reached)) (λ i k l b m c. absurd (omega (arith, past, m, c))))
        reached (omega (arith, past, up))
