-- A bisection of tiles in order comes to the tile that is sought, where there is one.
use Rattle.std.proofs.Common.{◌≡◌, inl, inr, ℕ, zero, suc, ◌+◌, ◌<◌, ◌≤◌, ℤ, List, [], ◌∷◌, Option, IfSome, length, get_or, slice_get, refl, sym, ap, ap₂, ◌∙◌, subst, arith}
use Rattle.std.specs.Ordering.{ordering_then, ordering_reverse, int_cmp}
use Rattle.std.specs.declared.cmp.Ordering.{Ordering}
use Rattle.std.specs.declared.cmp.Ordering.TheVariants.{Less, Equal, Greater}
use Rattle.std.specs.Cmp.{IsTotalOrder}
use Rattle.std.specs.Cmp.Lexicographic.{slice_cmp}
use Rattle.std.proofs.lemmas.Bool.{cases_lt}
use Rattle.std.proofs.lemmas.Cmp.{int_cmp_total, lists_total, tied_itself}
use Rattle.std.proofs.lemmas.Map.Lookups.{exact_signed}
use Rattle.std.proofs.lemmas.Option.{slice_get-get_or, slice_get_within, get_or_from_slice_get}
use Rattle.cyclo_points.specs.declared.motion.Motion.{Motion}
use Rattle.tile_place.specs.Keys.{order_numbers}
use Rattle.tile_place.specs.declared.placed_tile.PlacedTile.{PlacedTile}
use Rattle.window_cover.specs.InOrder.{ComesBefore, AreInOrder, numbers_placed}
use Rattle.window_cover.specs.Numbered.{IsPlacedAt}

-- the order of lists of numbers
total : IsTotalOrder (slice_cmp int_cmp)
total = lists_total int_cmp_total

both-equal : (o p : Ordering) → ordering_then o p ≡ Equal → (o ≡ Equal) × (p ≡ Equal)
both-equal Less p e = absurd (cc e)
both-equal Equal p e = (refl, e)
both-equal Greater p e = absurd (cc e)

exact : (xs ys : List ℤ) → slice_cmp int_cmp xs ys ≡ Equal → xs ≡ ys
exact [] [] e = refl
exact [] (y ∷ ys) e = absurd (cc e)
exact (x ∷ xs) [] e = absurd (cc e)
exact (x ∷ xs) (y ∷ ys) e =
    let parts = both-equal (int_cmp x y) (slice_cmp int_cmp xs ys) e in
    ap₂ (λ (z : ℤ) (zs : List ℤ). z ∷ zs) (exact_signed x y parts.0) (exact xs ys parts.1)

-- of tiles in order each comes before each one behind it
pub far : (d : PlacedTile) (tiles : List PlacedTile) → AreInOrder tiles → (i j : ℕ) → i < j → j < length tiles
    → ComesBefore (get_or tiles i d) (get_or tiles j d)
far d [] o i j l h = absurd (omega (arith, h))
far d (a ∷ []) o i j l h = absurd (omega (arith, l, h))
far d (a ∷ b ∷ tiles) o zero zero l h = absurd (omega (arith, l))
far d (a ∷ b ∷ tiles) o zero (suc zero) l h = o.0
far d (a ∷ b ∷ tiles) o zero (suc (suc j)) l h =
    total.trans (numbers_placed a) (numbers_placed b) (numbers_placed (get_or (b ∷ tiles) (suc j) d)) o.0
    (far d (b ∷ tiles) o.1 zero (suc j) (omega arith) (omega (arith, h)))
far d (a ∷ b ∷ tiles) o (suc i) zero l h = absurd (omega (arith, l))
far d (a ∷ b ∷ tiles) o (suc i) (suc j) l h = far d (b ∷ tiles) o.1 i j (omega (arith, l)) (omega (arith, h))

module _ (tiles : List PlacedTile) (m : Motion) (kind : ℕ) where
  -- how a tile stands to the one that is sought
  abbrev pub stands : PlacedTile → Ordering
  stands x = slice_cmp int_cmp (numbers_placed x) (order_numbers m kind)

  -- those in front of one place come before it, and those from another place on after it
  pub record ArePartedAt (first end : ℕ) : Type 0 where
    pub within : end ≤ length tiles
    pub before : (k : ℕ) (d : PlacedTile) → k < first → k < length tiles → stands (get_or tiles k d) ≡ Less
    pub behind : (k : ℕ) (d : PlacedTile) → end ≤ k → k < length tiles → stands (get_or tiles k d) ≡ Greater

  -- what is read of the tile at a place
  pub read-at : (r : Ordering) (k : ℕ) → k < length tiles → IfSome (slice_get tiles k) (λ x. r ≡ stands x)
      → (d : PlacedTile) → stands (get_or tiles k d) ≡ r
  read-at r k l h d = sym (subst (λ (o : Option PlacedTile). IfSome o (λ x. r ≡ stands x)) (slice_get-get_or tiles k d l) h)

  module _ (in_order : AreInOrder tiles) (first end : ℕ) (parted : ArePartedAt first end) (middle : ℕ) (below : middle < end) where
    inside : middle < length tiles
    inside = let w = parted.within in omega (arith, below, w)

    pub higher : ((d : PlacedTile) → stands (get_or tiles middle d) ≡ Less) → ArePartedAt (middle + 1) end
    higher e = record {
      within = parted.within;
      before = λ k d l h. elim (cases_lt k middle) [
        | inl b ↦ total.trans (numbers_placed (get_or tiles k d)) (numbers_placed (get_or tiles middle d))
            (order_numbers m kind) (far d tiles in_order k middle b inside) (e d)
        | inr b ↦ let same : middle ≡ k = omega (arith, l, b) in subst (λ i. stands (get_or tiles i d) ≡ Less) same (e d)
      ];
      behind = parted.behind;
    }

    pub lower : ((d : PlacedTile) → stands (get_or tiles middle d) ≡ Greater) → ArePartedAt first middle
    lower e = record {
      within = omega (arith, inside);
      before = parted.before;
      behind = λ k d l h. elim (cases_lt middle k) [
        | inl b ↦ after k d b h
        | inr b ↦ let same : middle ≡ k = omega (arith, l, b) in subst (λ i. stands (get_or tiles i d) ≡ Greater) same (e d)
      ];
    }
      where
        after : (k : ℕ) (d : PlacedTile) → middle < k → k < length tiles → stands (get_or tiles k d) ≡ Greater
        after k d b h =
            let sought = order_numbers m kind in
            let own = numbers_placed (get_or tiles middle d) in
            let its = numbers_placed (get_or tiles k d) in
            let up : slice_cmp int_cmp sought own ≡ Less = total.antisymm sought own ∙ ap ordering_reverse (e d) in
            total.antisymm its sought ∙ ap ordering_reverse (total.trans sought own its up (far d tiles in_order middle k b h))

  pub is-there : (middle : ℕ) → middle < length tiles → (d : PlacedTile) → stands (get_or tiles middle d) ≡ Equal → IsPlacedAt tiles m kind middle
  is-there middle l d e = (
    get_or tiles middle d,
    slice_get-get_or tiles middle d l,
    exact
        (numbers_placed (get_or tiles middle d)) (order_numbers m kind) e,
  )

  pub none-there : (first end : ℕ) → ArePartedAt first end → end ≤ first → (place : ℕ) → ¬ IsPlacedAt tiles m kind place
  none-there first end parted met place there =
      let x = there.0 in
      let below : place < length tiles = slice_get_within tiles place x there.1 in
      let read : get_or tiles place x ≡ x = get_or_from_slice_get tiles place x x there.1 in
      let level : stands (get_or tiles place x) ≡ Equal =
      ap stands read ∙ ap (λ ns. slice_cmp int_cmp ns (order_numbers m kind)) there.2 ∙ tied_itself total (order_numbers m kind) in
      elim (cases_lt place first) [
        | inl l ↦ absurd (cc (sym (parted.before place x l below) ∙ level))
        | inr l ↦ absurd (cc (sym (parted.behind place x (omega (arith, met, l)) below) ∙ level))
      ]
