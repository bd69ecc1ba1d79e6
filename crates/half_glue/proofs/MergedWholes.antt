-- The whole tiles of pairs that are merged.
use Rattle.std.proofs.Common.{◌≡◌, ◌⊎◌, inl, inr, zero, suc, ◌+◌, ◌≤◌, List, [], ◌∷◌, ◌++◌, All, length, refl, sym, ap, ◌∙◌, subst, arith}
use Rattle.std.specs.List.{Contains}
use Rattle.std.proofs.lemmas.List.{get_or-append-add, get_or_append_left, length-append, map-append}
use Rattle.std.proofs.lemmas.List.Elements.{All-append, All-map, All-weaker, All-contains, Contains-append_left, Contains-append_right}
use Rattle.rule_model.specs.declared.rule.Rule.{Rule}
use Rattle.rule_model.specs.Tiling.{tiling_of}
use Rattle.tile_place.specs.declared.placed_tile.PlacedTile.{PlacedTile}
use Rattle.theory_walks.specs.Frames.{FrameValue, IsFrameOf}
use Rattle.theory_windows.specs.Limits.{most_tiles}
use Rattle.half_glue.specs.declared.pairs.Pair.{Pair}
use Rattle.half_glue.specs.declared.whole_tile.WholeTile.{WholeTile}
use Rattle.half_glue.specs.Arranged.{AreWholesArranged}
use Rattle.half_glue.specs.Checked.{HasGlueLaws}
use Rattle.half_glue.specs.InOrder.{first_numbers, AreWholesInOrder}
use Rattle.half_glue.specs.Keys.{no_pair}
use Rattle.half_glue.specs.Lifted.{whole_of, wholes_of}
use Rattle.half_glue.specs.Merged.{pair_numbers, pair_of_number, ArePairsInOrder, AreMerged}
use Rattle.half_glue.specs.Numbered.{AreKeyed}
use Rattle.half_glue.specs.Pairs.{ArePresent, ArePairsOf}
use Rattle.half_glue.proofs.Merging.{total}
use Rattle.half_glue.proofs.Wholes.{all-keyed}
use Rattle.half_glue.proofs.Elements.{contains-map, contained}

-- what is so of all of two lists is so of each list
pub all-left : {A : Type 0} (P : A → Type 0) (xs ys : List A) → All P (xs ++ ys) → All P xs
all-left P xs ys all k d l = subst P (get_or_append_left xs ys d k l) (all k d (omega (arith, l, length-append xs ys)))

pub all-right : {A : Type 0} (P : A → Type 0) (xs ys : List A) → All P (xs ++ ys) → All P ys
all-right P xs ys all k d l = subst P (get_or-append-add xs ys k d) (all (length xs + k) d (omega (arith, l, length-append xs ys)))

-- the second of two lists of pairs has keys
pub outer-keyed : (m : Rule) → HasGlueLaws m → (f : FrameValue) → IsFrameOf (tiling_of m) f
    → (tiles crossed : List PlacedTile) (inner outer : List Pair) → length tiles ≤ most_tiles
    → ArePairsOf (tiling_of m) f tiles crossed (inner ++ outer) → AreKeyed (tiles ++ crossed) outer
outer-keyed m L f is tiles crossed inner outer few paired = record {
  few = let l = paired.few in omega (arith, l, few, length-append inner outer);
  numbered = all-right (ArePresent (length (tiles ++ crossed))) inner outer paired.present;
  fit = all-keyed m L f is tiles crossed (inner ++ outer) paired;
}

-- and so they have where they are read in slices
pub keyed-as : (xs ys : List PlacedTile) (ps qs : List Pair) → xs ≡ ys → qs ≡ ps → AreKeyed ys ps → AreKeyed xs qs
keyed-as xs ys ps qs same alike h = subst (λ (zs : List PlacedTile). AreKeyed zs qs) (sym same) (subst (AreKeyed ys) (sym alike) h)

module _ (f : FrameValue) (all : List PlacedTile) where
  -- pairs are in order where their whole tiles are
  pub wholes-order : (ps : List Pair) → AreWholesInOrder (wholes_of f all ps) → ArePairsInOrder all ps
  wholes-order [] o i j l h = absurd (omega (arith, h))
  wholes-order (p ∷ []) o i j l h = absurd (omega (arith, l, h))
  wholes-order (p ∷ q ∷ ps) o zero zero l h = absurd (omega (arith, l))
  wholes-order (p ∷ q ∷ ps) o zero (suc zero) l h = o.0
  wholes-order (p ∷ q ∷ ps) o zero (suc (suc j)) l h =
      total.trans (pair_numbers all p) (pair_numbers all q)
      (pair_numbers all (pair_of_number (q ∷ ps) (suc j))) o.0
      (wholes-order (q ∷ ps) o.1 zero (suc j) (omega arith) (omega (arith, h)))
  wholes-order (p ∷ q ∷ ps) o (suc i) zero l h = absurd (omega (arith, l))
  wholes-order (p ∷ q ∷ ps) o (suc i) (suc j) l h = wholes-order (q ∷ ps) o.1 i j (omega (arith, l)) (omega (arith, h))

  pub order-wholes : (ps : List Pair) → ArePairsInOrder all ps → AreWholesInOrder (wholes_of f all ps)
  order-wholes [] o = tt
  order-wholes (p ∷ []) o = tt
  order-wholes (p ∷ q ∷ ps) o = (
    o 0 1 (omega arith) (omega arith),
    order-wholes (q ∷ ps)
        (λ i j l h. o (suc i) (suc j) (omega (arith, l)) (omega (arith, h))),
  )

  -- the pairs merged have the whole tiles of both lists, those with one first tile but once
  pub merged-arranged : (inner outer sorted pairs : List Pair)
      → AreWholesArranged (wholes_of f all outer) (wholes_of f all sorted) → AreMerged all inner sorted pairs
      → AreWholesArranged (wholes_of f all (inner ++ outer)) (wholes_of f all pairs)
  merged-arranged inner outer sorted pairs h g = record {
    from_made = All-map (Contains made) (whole_of f all) pairs (All-weaker _ (λ p. Contains made (whole_of f all p)) from pairs g.from);
    each = subst (All Has) (sym both) (All-append Has (wholes_of f all inner) (wholes_of f all outer)
        (All-map Has (whole_of f all) inner (All-weaker (Contains pairs) (λ p. Has (whole_of f all p))
        (λ p c. (whole_of f all p, contains-map (whole_of f all) pairs p c, refl)) inner g.each_inner))
        (All-weaker _ Has sorted-has (wholes_of f all outer) h.each));
  }
    where
      made : List WholeTile
      made = wholes_of f all (inner ++ outer)

      both : made ≡ wholes_of f all inner ++ wholes_of f all outer
      both = map-append (whole_of f all) inner outer

      Has : WholeTile → Type 0
      Has v = (w : WholeTile) × Contains (wholes_of f all pairs) w × (first_numbers w ≡ first_numbers v)

      from : (p : Pair) → Contains inner p ⊎ Contains sorted p → Contains made (whole_of f all p)
      from p (inl c) = contains-map (whole_of f all) (inner ++ outer) p (Contains-append_left inner outer p c)
      from p (inr c) =
          let there = All-contains (Contains (wholes_of f all outer)) (wholes_of f all sorted)
          (whole_of f all p) h.from_made (contains-map (whole_of f all) sorted p c) in
          subst (λ (ws : List WholeTile). Contains ws (whole_of f all p)) (sym both)
          (Contains-append_right (wholes_of f all inner) (wholes_of f all outer) (whole_of f all p) there)

      sorted-has : (v : WholeTile) → ((w : WholeTile) × Contains (wholes_of f all sorted) w × (first_numbers w ≡ first_numbers v)) → Has v
      sorted-has v r =
          let q = contained (whole_of f all) sorted no_pair r.0 r.1 in
          let s = All-contains (λ p. (q : Pair) × Contains pairs q × (pair_numbers all q ≡ pair_numbers all p)) sorted q.0 g.each_outer q.1 in
          (whole_of f all s.0, contains-map (whole_of f all) pairs s.0 s.1, s.2 ∙ ap first_numbers q.2 ∙ r.2)

-- a property of the pairs of both lists is one of the pairs merged
pub merged-all : (P : Pair → Type 0) (all : List PlacedTile) (inner sorted pairs : List Pair) → All P inner
    → All P sorted → AreMerged all inner sorted pairs → All P pairs
merged-all P all inner sorted pairs left right g = All-weaker _ P by pairs g.from
  where
    by : (p : Pair) → Contains inner p ⊎ Contains sorted p → P p
    by p (inl c) = All-contains P inner p left c
    by p (inr c) = All-contains P sorted p right c
