-- What a call that glues tiles has made.
use Rattle.std.specs.Prelude.{List, ◌++◌}
use Rattle.rule_model.specs.Tiling.{Tiling}
use Rattle.tile_place.specs.declared.placed_tile.PlacedTile.{PlacedTile}
use Rattle.theory_walks.specs.Frames.{FrameValue}
use Rattle.half_glue.specs.declared.pairs.Pair.{Pair}
use Rattle.half_glue.specs.declared.whole_tile.WholeTile.{WholeTile}
use Rattle.half_glue.specs.InOrder.{AreWholesInOrder}
use Rattle.half_glue.specs.Lifted.{CanBeWholes, wholes_of}
use Rattle.half_glue.specs.WholeTiles.{AreWholeTilesOf}

-- these are the whole tiles of the given tiles in a frame, in order
pub record AreGluedAs (t : Tiling) (f : FrameValue) (tiles : List PlacedTile)
    (wholes : List WholeTile) : Type 0 where
  pub whole_tiles : AreWholeTilesOf t f tiles wholes
  pub in_order : AreWholesInOrder wholes

-- the same for whole tiles by the numbers of their tiles: those given, and after them those crossed to
pub record AreGluedBy (t : Tiling) (f : FrameValue) (tiles crossed : List PlacedTile)
    (pairs : List Pair) : Type 0 where
  pub can_be : CanBeWholes f (tiles ++ crossed) pairs
  pub glued : AreGluedAs t f tiles (wholes_of f (tiles ++ crossed) pairs)
