-- Tiles found, with the digits of all of them in one list.
use Rattle.std.specs.Prelude.{◌+◌, ◌*◌, ◌≤◌, List, map, length, take, drop}
use Rattle.std.specs.List.{AllByRecursion}
use Rattle.theory_addresses.specs.Address.{Step as TheStep}
use Rattle.tile_shape.specs.declared.step.Step.{Step}
use Rattle.tile_shape.specs.Views.{step_of}
use Rattle.window_cover.specs.declared.found_tile.FoundTile.{FoundTile}
use Rattle.window_cover.specs.Border.{Waiting}
use Rattle.window_cover.specs.Found.{Found}
use Rattle.tile_place.specs.Keys.{FitsKey}
use Rattle.theory_windows.specs.Limits.{most_tiles}

-- the tile's own digits, in the list of all
abbrev pub digits_in : List Step → FoundTile → List TheStep
digits_in all x = map step_of (take x.depth (drop x.first all))

-- the tiles as contracts see them
abbrev pub found_in : List Step → List FoundTile → List Found
found_in all xs = map
    (λ (x : FoundTile). record { kind = x.kind; motion = x.motion; digits = digits_in all x }) xs

-- the digits of each lie within the list
abbrev pub AreKept : List Step → List FoundTile → Type 0
AreKept all xs = AllByRecursion (λ (x : FoundTile). (x.first + x.depth ≤ length all) × (x.depth ≤ 64)) xs

-- This holds, and each tile has a key. There are no more tiles than the limit, and at most twelve open edges
-- for each.
pub record IsKept (all : List Step) (xs : List FoundTile) (border : List Waiting) : Type 0 where
  pub spans : AreKept all xs
  pub keyed : AllByRecursion (λ (x : FoundTile). FitsKey x.motion x.kind) xs
  pub few_tiles : length xs ≤ most_tiles
  pub few_open : length border ≤ 12 * length xs
