-- Pairs of tiles by their numbers: the given tiles come first, then those crossed to.
use Rattle.std.specs.Prelude.{◌≡◌, ℕ, ◌^◌, ◌<◌, ◌≤◌, ◌++◌, List, All, length}
use Rattle.theory_walks.specs.Frames.{FrameValue}
use Rattle.theory_windows.specs.Limits.{most_tiles}
use Rattle.tile_place.specs.declared.order_key.OrderKey.{OrderKey}
use Rattle.tile_place.specs.declared.placed_tile.PlacedTile.{PlacedTile}
use Rattle.half_glue.specs.declared.half.Found.{Found}
use Rattle.half_glue.specs.declared.pairs.Pair.{Pair}
use Rattle.half_glue.specs.declared.pairs.Pairs.{Pairs}
use Rattle.half_glue.specs.Found.{IsNumberOfGiven}
use Rattle.half_glue.specs.Keys.{HasTileKey, first_keys}
use Rattle.half_glue.specs.Lifted.{wholes_of}
use Rattle.half_glue.specs.Pairs.{ArePresent, added_pairs, added_tiles}

-- the tiles are not too many, and each has a key
pub record HaveKeys (tiles : List PlacedTile) : Type 0 where
  pub few : length tiles ≤ most_tiles
  pub fit : All HasTileKey tiles

-- the pairs are not too many, their numbers are those of tiles, and each tile has a key
pub record AreKeyed (tiles : List PlacedTile) (pairs : List Pair) : Type 0 where
  pub few : length pairs < 2 ^ 32
  pub numbered : All (ArePresent (length tiles)) pairs
  pub fit : All HasTileKey tiles

-- these are the keys of the pairs, by their first tiles
abbrev pub AreFirstKeys : List PlacedTile → List Pair → List OrderKey → Type 0
AreFirstKeys tiles pairs keys = (f : FrameValue) → keys ≡ first_keys (wholes_of f tiles pairs)

-- the number of each key is that of a pair
abbrev pub NamePairs : List Pair → List OrderKey → Type 0
NamePairs pairs keys = All (λ (k : OrderKey). k.number < length pairs) keys

-- the pair of tile number n may be added: no more tiles were crossed to than were looked at
pub record CanBeAdded (tiles : List PlacedTile) (made : Pairs) (n : ℕ) (found : Found) : Type 0 where
  pub few : length tiles ≤ most_tiles
  pub below : n < length tiles
  pub few_crossed : length made.crossed.items ≤ n
  pub numbered : IsNumberOfGiven tiles found

-- it is added, with the tile crossed to
pub record IsAdded (tiles : List PlacedTile) (n : ℕ) (found : Found) (old new : Pairs) : Type 0 where
  pub pairs : new.pairs.items ≡ old.pairs.items ++ added_pairs tiles n (length old.crossed.items) found
  pub crossed : new.crossed.items ≡ old.crossed.items ++ added_tiles found
