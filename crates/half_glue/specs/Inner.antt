-- Whole tiles of which every tile is given.
use Rattle.std.specs.Prelude.{◌≡◌, ◌⊎◌, ℕ, ◌<◌, ◌≤◌, Bool, false, List, All, length, get_or, Some, IsTrue}
use Rattle.std.specs.List.{Contains}
use Rattle.rule_model.specs.Tiling.{Tiling}
use Rattle.tile_place.specs.declared.placed_tile.PlacedTile.{PlacedTile}
use Rattle.theory_walks.specs.Frames.{FrameValue}
use Rattle.half_glue.specs.declared.pairs.Pair.{Pair}
use Rattle.half_glue.specs.Keys.{no_pair}
use Rattle.half_glue.specs.Pairs.{ArePresent, IsLoose, loose_of}

-- both numbers of the pair are those of given tiles, and these tiles are a whole one
pub record IsInnerPair (t : Tiling) (f : FrameValue) (tiles : List PlacedTile) (p : Pair) : Type 0 where
  pub present : ArePresent (length tiles) p
  pub loose : IsLoose t f tiles (loose_of tiles p)

-- the number is one of the pair's
abbrev pub IsOfPair : ℕ → Pair → Type 0
IsOfPair k p = (p.first ≡ k) ⊎ (p.second ≡ Some k)

-- this holds for each of these pairs, and each tile that is marked is of one of them
pub record AreInner (t : Tiling) (f : FrameValue) (tiles : List PlacedTile) (pairs : List Pair)
    (marks : List Bool) : Type 0 where
  pub each : All (IsInnerPair t f tiles) pairs
  pub taken : (k : ℕ) → IsTrue (get_or marks k false) → (p : Pair) × Contains pairs p × IsOfPair k p

-- the first number of each pair is below n, and less than that of each pair after it
pub record AreRising (n : ℕ) (pairs : List Pair) : Type 0 where
  pub few : length pairs ≤ n
  pub below : All (λ (p : Pair). p.first < n) pairs
  pub rising : (i j : ℕ) → i < j → j < length pairs
      → (get_or pairs i no_pair).first < (get_or pairs j no_pair).first
