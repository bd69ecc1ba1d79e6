-- The whole tiles of pairs, one by one.
use Rattle.std.proofs.Common.{◌≡◌, ℕ, suc, ◌<◌, None, All, List, [], ◌∷◌, ◌++◌, length, take, get_or, sym, ap, ◌∙◌, subst, arith}
use Rattle.std.proofs.lemmas.List.{get_or-map, length-map}
use Rattle.tile_place.specs.Keys.{key_of}
use Rattle.tile_place.specs.declared.placed_tile.PlacedTile.{PlacedTile}
use Rattle.theory_walks.specs.Frames.{FrameValue}
use Rattle.half_glue.specs.declared.pairs.Pair.{Pair}
use Rattle.half_glue.specs.declared.whole_tile.WholeTile.{WholeTile}
use Rattle.half_glue.specs.Found.{no_tile, given_tile}
use Rattle.half_glue.specs.Keys.{HasTileKey, first_keys}
use Rattle.half_glue.specs.Lifted.{whole_of, wholes_of}
use Rattle.half_glue.specs.Pairs.{ArePresent}
use Rattle.half_glue.proofs.Keyed.{keys-more}

module _ (f : FrameValue) (all : List PlacedTile) (pairs : List Pair) (k : ℕ) (p : Pair) (below : k < length pairs) (at : p ≡ get_or pairs k p) where
  pub whole-there : (w : WholeTile) → get_or (wholes_of f all pairs) k w ≡ whole_of f all p
  whole-there w = get_or-map (whole_of f all) pairs k p w below ∙ ap (whole_of f all) (sym at)

  -- the key of one more first half
  pub first-more : first_keys (take (suc k) (wholes_of f all pairs)) ≡ first_keys
      (take k (wholes_of f all pairs)) ++ key_of (given_tile all p.first).motion (given_tile all p.first).kind k
      ∷ []
  first-more = keys-more (λ (v : WholeTile). v.first) 0 k k (wholes_of f all pairs) (whole_of f all p)
      (omega arith) (subst (λ n. k < n) (sym (length-map pairs (whole_of f all))) below)
      (sym (whole-there (whole_of f all p)))

-- a whole tile that stands for none
abbrev pub no_whole : WholeTile
no_whole = record { first = no_tile; second = None }

-- the numbers of each first half are small enough for a key
pub firsts-fit : (f : FrameValue) (all : List PlacedTile) (pairs : List Pair) → All HasTileKey all
    → All (ArePresent (length all)) pairs → All (λ (w : WholeTile). HasTileKey w.first) (wholes_of f all pairs)
firsts-fit f all pairs fit present i d l =
    let p : Pair = get_or pairs i (record { first = 0; second = None }) in
    let below : i < length pairs = subst (λ n. i < n) (length-map pairs (whole_of f all)) l in
    subst (λ (w : WholeTile). HasTileKey w.first) (sym
    (get_or-map (whole_of f all) pairs i (record { first = 0; second = None }) d below))
    (fit p.first no_tile (present i (record { first = 0; second = None }) below).first)
