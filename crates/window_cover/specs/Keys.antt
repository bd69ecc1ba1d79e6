-- The keys of tiles found.
use Rattle.std.specs.Prelude.{◌≡◌, ℕ, suc, List, [], ◌∷◌, map}
use Rattle.std.specs.List.Sorted.{IsPermutation, IsSorted}
use Rattle.std.specs.declared.cmp.Ordering.{Ordering}
use Rattle.tile_place.specs.contracts.order_key.OrderKeyOrd.TheImpl as key_ord
use Rattle.tile_place.specs.declared.order_key.OrderKey.{OrderKey}
use Rattle.tile_place.specs.Keys.{key_of, FitsKey}
use Rattle.window_cover.specs.Found.{Found}

-- the keys of tiles found, numbered from n
abbrev pub keys_from : ℕ → List Found → List OrderKey
keys_from n [] = []
keys_from n (x ∷ xs) = key_of x.motion x.kind n ∷ keys_from (suc n) xs

-- the numbers of a tile are small enough for a key
abbrev pub HasKey : Found → Type 0
HasKey x = FitsKey x.motion x.kind

-- the order by which keys are sorted
abbrev pub key_order : OrderKey → OrderKey → Ordering
key_order = (key_ord.ghosts).cmp

-- these are the numbers of the tiles found, in the order of their keys
pub record AreOrdered (found : List Found) (numbers : List ℕ) : Type 0 where
  pub keys : List OrderKey
  pub same : IsPermutation (keys_from 0 found) keys
  pub sorted : IsSorted key_order keys
  pub numbered : numbers ≡ map (λ (k : OrderKey). k.number) keys
