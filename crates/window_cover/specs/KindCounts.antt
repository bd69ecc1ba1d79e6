-- How many tiles have a kind.
use Rattle.std.specs.Prelude.{ℕ, List, count_by, ◌==◌}
use Rattle.tile_place.specs.declared.placed_tile.PlacedTile.{PlacedTile}
use Rattle.window_cover.specs.Found.{Found}

-- the number of these tiles that have this kind
abbrev pub count_of_kind : ℕ → List PlacedTile → ℕ
count_of_kind kind tiles = count_by (λ (x : PlacedTile). x.kind == kind) tiles

-- the same of tiles found
abbrev pub count_found : ℕ → List Found → ℕ
count_found kind found = count_by (λ (x : Found). x.kind == kind) found
