-- The tiles of a window in order, each with the digits of a frame after its own.
use Rattle.std.specs.Prelude.{ℕ, ◌<◌, ◌≤◌, List, [], ◌++◌, map, drop, length, get_or}
use Rattle.std.specs.List.{AllByRecursion}
use Rattle.theory_addresses.specs.Address as theory
use Rattle.tile_shape.specs.Views.{step_as}
use Rattle.tile_place.specs.declared.placed_tile.PlacedTile.{PlacedTile}
use Rattle.window_cover.specs.Found.{Found}

-- a value for a number that no tile has
abbrev pub none : Found
none = record { kind = 0; motion = record { turn = 0; shift = record { c = [] } }; digits = [] }

-- the tile with this number
abbrev pub tile_of : List Found → ℕ → Found
tile_of found number = get_or found number none

-- a tile found, with the frame's digits, from its depth up, after its own
abbrev pub placed_as : List theory.Step → Found → PlacedTile
placed_as above x = record {
  kind = x.kind;
  motion = x.motion;
  addr = record {
    kind = x.kind;
    digits = record { items = map step_as (x.digits ++ drop (length x.digits) above) };
  };
}

-- the tiles with these numbers
abbrev pub tiles_of : List theory.Step → List Found → List ℕ → List PlacedTile
tiles_of above found numbers = map (λ n. placed_as above (tile_of found n)) numbers

-- each number is that of a tile, and no tile is deeper than the frame
pub record AreCovered (above : List theory.Step) (found : List Found) (numbers : List ℕ) : Type 0 where
  pub numbered : AllByRecursion (λ n. n < length found) numbers
  pub no_deeper : AllByRecursion (λ (x : Found). length x.digits ≤ length above) found
