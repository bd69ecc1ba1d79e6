-- Keys of tiles and of whole tiles.
use Rattle.std.specs.Prelude.{ℕ, zero, suc, Bool, true, not, List, [], ◌∷◌, get_or, None}
use Rattle.std.specs.List.Sorted.{IsPermutation, IsSorted}
use Rattle.std.specs.declared.cmp.Ordering.{Ordering}
use Rattle.tile_place.specs.Keys.{key_of, FitsKey, are_level}
use Rattle.tile_place.specs.contracts.order_key.OrderKeyOrd.TheImpl as key_ord
use Rattle.tile_place.specs.declared.order_key.OrderKey.{OrderKey}
use Rattle.tile_place.specs.declared.placed_tile.PlacedTile.{PlacedTile}
use Rattle.half_glue.specs.declared.pairs.Pair.{Pair}
use Rattle.half_glue.specs.declared.whole_tile.WholeTile.{WholeTile}

-- the order by which keys are sorted
abbrev pub whole_order : OrderKey → OrderKey → Ordering
whole_order = (key_ord.ghosts).cmp

-- the numbers of the tile are small enough for a key
abbrev pub HasTileKey : PlacedTile → Type 0
HasTileKey x = FitsKey x.motion x.kind

-- the keys of things, each by one of its tiles, numbered from n
abbrev pub keys_by : {A : Type 0} → (A → PlacedTile) → ℕ → List A → List OrderKey
keys_by tile n [] = []
keys_by tile n (x ∷ xs) = key_of (tile x).motion (tile x).kind n ∷ keys_by tile (suc n) xs

-- the keys of tiles
abbrev pub own_keys : List PlacedTile → List OrderKey
own_keys tiles = keys_by (λ x. x) 0 tiles

-- the keys of whole tiles, by their first halves
abbrev pub first_keys : List WholeTile → List OrderKey
first_keys wholes = keys_by (λ w. w.first) 0 wholes

-- these are the keys of the tiles, in order
pub record AreKeysOf (tiles : List PlacedTile) (keys : List OrderKey) : Type 0 where
  pub same : IsPermutation (own_keys tiles) keys
  pub sorted : IsSorted whole_order keys

abbrev pub no_key : OrderKey
no_key = record { high = 0; low = 0; number = 0 }

-- true if the key at a place differs from the one before in more than its number
unfoldable pub is_new_key : List OrderKey → ℕ → Bool
is_new_key ks zero = true
is_new_key ks (suc i) = not (are_level (get_or ks (suc i) no_key) (get_or ks i no_key))

-- the whole tile of the key at this place
abbrev pub whole_at : List WholeTile → WholeTile → List OrderKey → ℕ → WholeTile
whole_at made blank ks i = get_or made (get_or ks i no_key).number blank

-- the pair of the key at this place
abbrev pub no_pair : Pair
no_pair = record { first = 0; second = None }

abbrev pub pair_at : List Pair → List OrderKey → ℕ → Pair
pair_at pairs ks i = get_or pairs (get_or ks i no_key).number no_pair
