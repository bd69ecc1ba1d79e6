-- Whole tiles in another order, each first half only once.
use Rattle.std.specs.Prelude.{◌≡◌, List, All, length}
use Rattle.std.specs.List.{Contains}
use Rattle.theory_walks.specs.Frames.{FrameValue}
use Rattle.tile_place.specs.declared.placed_tile.PlacedTile.{PlacedTile}
use Rattle.half_glue.specs.declared.pairs.Pair.{Pair}
use Rattle.half_glue.specs.declared.whole_tile.WholeTile.{WholeTile}
use Rattle.half_glue.specs.InOrder.{AreWholesInOrder, first_numbers}
use Rattle.half_glue.specs.Lifted.{wholes_of}
use Rattle.half_glue.specs.Pairs.{ArePresent}

-- each is one of those made, and for each one made there is one with the same first half
pub record AreWholesArranged (made wholes : List WholeTile) : Type 0 where
  pub from_made : All (λ w. Contains made w) wholes
  pub each : All (λ v. (w : WholeTile) × Contains wholes w × (first_numbers w ≡ first_numbers v)) made

-- they are so, and in order
pub record AreWholesOrdered (made wholes : List WholeTile) : Type 0 where
  pub in_order : AreWholesInOrder wholes
  pub same : AreWholesArranged made wholes

-- pairs of numbers of these tiles, in the order of their first tiles: one for each first tile of the given
-- pairs, and of them
pub record AreOrdered (tiles : List PlacedTile) (pairs ordered : List Pair) : Type 0 where
  pub numbered : All (ArePresent (length tiles)) ordered
  pub wholes : (f : FrameValue) → AreWholesOrdered (wholes_of f tiles pairs) (wholes_of f tiles ordered)
