-- Pairs picked by keys in order are as the whole tiles picked by them.
use Rattle.std.proofs.Common.{◌≡◌, ℕ, zero, suc, ◌<◌, Bool, true, false, cond, List, [], ◌∷◌, ◌++◌, All, length, map, get_or, refl, sym, ap, ap₂, ◌∙◌, arith}
use Rattle.std.proofs.lemmas.List.Elements.{All-nil, All-cons, All-append}
use Rattle.theory_addresses.specs.Search.{chosen_below}
use Rattle.tile_place.specs.declared.order_key.OrderKey.{OrderKey}
use Rattle.tile_place.specs.declared.placed_tile.PlacedTile.{PlacedTile}
use Rattle.theory_walks.specs.Frames.{FrameValue}
use Rattle.half_glue.specs.declared.pairs.Pair.{Pair}
use Rattle.half_glue.specs.declared.whole_tile.WholeTile.{WholeTile}
use Rattle.half_glue.specs.Keys.{no_key, no_pair, pair_at, whole_at}
use Rattle.half_glue.specs.Lifted.{whole_of, wholes_of}
use Rattle.std.proofs.lemmas.List.{get_or-map}
use Rattle.half_glue.proofs.ArePaired.{map-joined}

-- what is chosen, taken further
chosen-map : {A B : Type 0} (g : A → B) (p : ℕ → Bool) (h : ℕ → A) (k : ℕ → B) (n : ℕ)
    → ((i : ℕ) → i < n → g (h i) ≡ k i) → map g (chosen_below p h n) ≡ chosen_below p k n
chosen-map g p h k zero e = refl
chosen-map {A} {B} g p h k (suc n) e =
    map-joined g (chosen_below p h n) (cond (p n) (h n ∷ []) [])
    ∙ ap₂ (λ (xs ys : List B). xs ++ ys) (chosen-map g p h k n (λ i l. e i (omega (arith, l))))
    (one (p n))
  where
    one : (b : Bool) → map g (cond b (h n ∷ []) []) ≡ cond b (k n ∷ []) []
    one true = ap (λ (y : B). y ∷ []) (e n (omega arith))
    one false = refl

chosen-all : {A : Type 0} (Q : A → Type 0) (p : ℕ → Bool) (h : ℕ → A) (n : ℕ) → ((i : ℕ) → i < n → Q (h i)) → All Q (chosen_below p h n)
chosen-all Q p h zero e = All-nil Q
chosen-all Q p h (suc n) e = All-append Q (chosen_below p h n) (cond (p n) (h n ∷ []) [])
    (chosen-all Q p h n (λ i l. e i (omega (arith, l)))) (one (p n))
  where
    one : (b : Bool) → All Q (cond b (h n ∷ []) [])
    one true = All-cons Q (h n) [] (e n (omega arith)) (All-nil Q)
    one false = All-nil Q

module _ (pairs : List Pair) (ks : List OrderKey) (numbered : All (λ (k : OrderKey). k.number < length pairs) ks) (p : ℕ → Bool) where
  pub picked-wholes : (f : FrameValue) (all : List PlacedTile) (blank : WholeTile)
      → wholes_of f all (chosen_below p (pair_at pairs ks) (length ks)) ≡ chosen_below p
      (whole_at (wholes_of f all pairs) blank ks) (length ks)
  picked-wholes f all blank = chosen-map (whole_of f all) p (pair_at pairs ks) (whole_at (wholes_of f all pairs) blank ks) (length ks)
      (λ i l. sym (get_or-map (whole_of f all) pairs (get_or ks i no_key).number no_pair blank (numbered i no_key l)))

  pub picked-all : (Q : Pair → Type 0) → All Q pairs → All Q (chosen_below p (pair_at pairs ks) (length ks))
  picked-all Q all = chosen-all Q p (pair_at pairs ks) (length ks) (λ i l. all (get_or ks i no_key).number no_pair (numbered i no_key l))
