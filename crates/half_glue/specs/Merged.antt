-- Two lists of pairs, merged into one.
use Rattle.std.specs.Prelude.{◌≡◌, ◌⊎◌, ℕ, ◌<◌, ◌≤◌, ℤ, List, All, length, get_or, Result, Ok, Err}
use Rattle.std.specs.List.{Contains}
use Rattle.std.specs.Ordering.{int_cmp}
use Rattle.std.specs.Cmp.Lexicographic.{slice_cmp}
use Rattle.std.specs.declared.cmp.Ordering.TheVariants.{Less, Greater}
use Rattle.tile_place.specs.Keys.{order_numbers}
use Rattle.tile_place.specs.declared.placed_tile.PlacedTile.{PlacedTile}
use Rattle.half_glue.specs.declared.merge.Merge.{Merge}
use Rattle.half_glue.specs.declared.pairs.Pair.{Pair}
use Rattle.window_cover.specs.InOrder.{AreInOrder}
use Rattle.half_glue.specs.Found.{given_tile}
use Rattle.half_glue.specs.NumberedTiles.{HasTile, tiles_in}
use Rattle.half_glue.specs.Inner.{AreRising}
use Rattle.half_glue.specs.Keys.{no_pair}

-- the numbers by which a pair is ordered: those of its first tile
abbrev pub pair_numbers : List PlacedTile → Pair → List ℤ
pair_numbers tiles p = order_numbers (given_tile tiles p.first).motion (given_tile tiles p.first).kind

-- the pair with this number
abbrev pub pair_of_number : List Pair → ℕ → Pair
pair_of_number pairs n = get_or pairs n no_pair

-- one pair comes before the other
abbrev pub PairComesBefore : List PlacedTile → Pair → Pair → Type 0
PairComesBefore tiles p q = slice_cmp int_cmp (pair_numbers tiles p) (pair_numbers tiles q) ≡ Less

-- each of these pairs comes before each pair after it
abbrev pub ArePairsInOrder : List PlacedTile → List Pair → Type 0
ArePairsInOrder tiles pairs = (i j : ℕ) → i < j → j < length pairs
    → PairComesBefore tiles (pair_of_number pairs i) (pair_of_number pairs j)

-- The pairs are in order: all pairs of the first list, and one of the second for each first tile that the
-- first list does not have.
pub record AreMerged (tiles : List PlacedTile) (inner outer pairs : List Pair) : Type 0 where
  pub in_order : ArePairsInOrder tiles pairs
  pub from : All (λ p. Contains inner p ⊎ Contains outer p) pairs
  pub each_inner : All (Contains pairs) inner
  pub each_outer : All (λ p. (q : Pair) × Contains pairs q × (pair_numbers tiles q ≡ pair_numbers tiles p))
      outer

-- The first list is one of tiles of a window, which are in order, and it is rising. The second has numbers of
-- tiles, and is in order.
pub record CanBeMerged (m : Merge) : Type 0 where
  pub in_order : AreInOrder m.halves.tiles.now
  pub rising : AreRising (length m.halves.tiles.now) m.inner.now
  pub numbered : All (λ (p : Pair). HasTile m.halves p.first) m.outer.now
  pub outer_in_order : ArePairsInOrder (tiles_in m.halves) m.outer.now

-- This holds for the first `done` pairs of the first list and the first `next` pairs of the second. Each pair
-- comes before all that are left of both.
pub record IsMerging (tiles : List PlacedTile) (inner outer : List Pair) (done next : ℕ)
    (pairs : List Pair) : Type 0 where
  pub within : done ≤ length inner
  pub in_order : ArePairsInOrder tiles pairs
  pub before_inner : (k : ℕ) → done ≤ k → k < length inner
      → All (λ p. PairComesBefore tiles p (pair_of_number inner k)) pairs
  pub before_outer : (k : ℕ) → next ≤ k → k < length outer
      → All (λ p. PairComesBefore tiles p (pair_of_number outer k)) pairs
  pub from : All (λ p. Contains inner p ⊎ Contains outer p) pairs
  pub each_inner : (k : ℕ) → k < done → Contains pairs (pair_of_number inner k)
  pub each_outer : (k : ℕ) → k < next
      → (q : Pair) × Contains pairs q × (pair_numbers tiles q ≡ pair_numbers tiles (pair_of_number outer k))

-- among the pairs from number `from` on: the one with these numbers, or the place where it belongs
abbrev pub IsPlaceAmong : List PlacedTile → List Pair → ℕ → List ℤ → Result ℕ ℕ → Type 0
IsPlaceAmong tiles pairs from sought (Ok k) = (from ≤ k) × (k < length pairs)
    × (pair_numbers tiles (pair_of_number pairs k) ≡ sought)
IsPlaceAmong tiles pairs from sought (Err k) =
    (from ≤ k) × (k ≤ length pairs)
    × ((i : ℕ) → from ≤ i → i < k
    → slice_cmp int_cmp (pair_numbers tiles (pair_of_number pairs i)) sought ≡ Less)
    × ((i : ℕ) → k ≤ i → i < length pairs
    → slice_cmp int_cmp (pair_numbers tiles (pair_of_number pairs i)) sought ≡ Greater)
