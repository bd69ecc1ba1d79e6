-- The tiles found, in order, with the digits of a frame after their own.
use Rattle.std.specs.Prelude.{◌≡◌, ℕ, List}
use Rattle.std.specs.List.{AllByRecursion}
use Rattle.tile_place.specs.declared.placed_tile.PlacedTile.{PlacedTile}
use Rattle.theory_walks.specs.Frames.{FrameValue}
use Rattle.window_cover.specs.Covered.{tiles_of}
use Rattle.window_cover.specs.Found.{Found}
use Rattle.window_cover.specs.Keys.{HasKey, AreOrdered}

pub record AreArranged (f : FrameValue) (found : List Found) (tiles : List PlacedTile) : Type 0 where
  pub keyed : AllByRecursion HasKey found
  pub numbers : List ℕ
  pub ordered : AreOrdered found numbers
  pub are : tiles ≡ tiles_of f.digits found numbers
