-- Pairs in the order of the keys of their first tiles.
use Rattle.std.proofs.Common.{◌≡◌, ◌<◌, List, [], All, length, sym, ap, ◌∙◌, subst}
use Rattle.std.specs.List.Sorted.{IsPermutation, IsSorted}
use Rattle.std.proofs.lemmas.List.{length-map}
use Rattle.std.proofs.lemmas.List.Sorted.{IsPermutation-refl}
use Rattle.tile_place.specs.declared.order_key.OrderKey.{OrderKey}
use Rattle.tile_place.specs.declared.placed_tile.PlacedTile.{PlacedTile}
use Rattle.theory_addresses.specs.Search.{chosen_below}
use Rattle.theory_walks.specs.Frames.{FrameValue}
use Rattle.half_glue.specs.declared.pairs.Pair.{Pair}
use Rattle.half_glue.specs.declared.whole_tile.WholeTile.{WholeTile}
use Rattle.half_glue.specs.Arranged.{AreWholesOrdered, AreOrdered}
use Rattle.half_glue.specs.Keys.{HasTileKey, whole_order, first_keys, is_new_key, pair_at, whole_at}
use Rattle.half_glue.specs.Lifted.{whole_of, wholes_of}
use Rattle.half_glue.specs.Numbered.{AreFirstKeys, AreKeyed, NamePairs}
use Rattle.half_glue.specs.Pairs.{ArePresent}
use Rattle.half_glue.proofs.Chosen.{arranged-in_order, arranged-same, arranged-numbered}
use Rattle.half_glue.proofs.Firsts.{firsts-fit, no_whole}
use Rattle.half_glue.proofs.PickedPairs.{picked-wholes, picked-all}

-- any frame
some_frame : FrameValue
some_frame = record { base = record { kind = 0; digits = [] }; start = 0; digits = [] }

module _ (all : List PlacedTile) (pairs : List Pair) (keys : List OrderKey) (first : AreFirstKeys all pairs keys) where
  abbrev made : FrameValue → List WholeTile
  made f = wholes_of f all pairs

  module _ (ks : List OrderKey) (mixed : IsPermutation keys ks) where
    own-mixed : (f : FrameValue) → IsPermutation (first_keys (made f)) ks
    own-mixed f = subst (λ (xs : List OrderKey). IsPermutation xs ks) (first f) mixed

    mixed-named : NamePairs pairs ks
    mixed-named = subst (λ n. All (λ (k : OrderKey). k.number < n) ks) (length-map pairs (whole_of some_frame all))
        (arranged-numbered (made some_frame) ks (own-mixed some_frame))

    abbrev picked : List Pair
    picked = chosen_below (is_new_key ks) (pair_at pairs ks) (length ks)

    whole-picked : (f : FrameValue) → chosen_below (is_new_key ks) (whole_at (made f) no_whole ks) (length ks) ≡ wholes_of f all picked
    whole-picked f = sym (picked-wholes pairs ks mixed-named (is_new_key ks) f all no_whole)

    pub picked-ordered : AreKeyed all pairs → IsSorted whole_order ks → AreOrdered all pairs picked
    picked-ordered keyed sorted = record {
      numbered = picked-all pairs ks mixed-named (is_new_key ks) (ArePresent (length all)) keyed.numbered;
      wholes = λ f. subst (AreWholesOrdered (made f)) (whole-picked f) (record {
        in_order = arranged-in_order (made f) (fit f) ks (own-mixed f) sorted no_whole;
        same = arranged-same (made f) (fit f) ks (own-mixed f) sorted no_whole;
      });
    }
      where
        fit : (f : FrameValue) → All (λ (w : WholeTile). HasTileKey w.first) (made f)
        fit f = firsts-fit f all pairs keyed.fit keyed.numbered

  -- each key is that of a pair
  pub keys-named : NamePairs pairs keys
  keys-named = mixed-named keys (IsPermutation-refl keys)

-- what is picked by keys that are read in a slice
pub picked-is : (pairs : List Pair) (ks xs : List OrderKey) → xs ≡ ks → (ps : List Pair)
    → ps ≡ chosen_below (is_new_key xs) (pair_at pairs xs) (length xs)
    → chosen_below (is_new_key ks) (pair_at pairs ks) (length ks) ≡ ps
picked-is pairs ks xs e ps h = sym (h ∙ ap (λ (ys : List OrderKey). chosen_below (is_new_key ys) (pair_at pairs ys) (length ys)) e)
