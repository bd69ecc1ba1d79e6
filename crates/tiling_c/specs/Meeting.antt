-- Which placed tiles meet a window.
use Rattle.std.specs.Prelude.{◌≡◌, ◌↔◌, ◌⊎◌, ◌<◌, ◌≤◌, ℕ, List, [], length, get_or, All}
use Rattle.cyclo_points.specs.Motion.{motion_in}
use Rattle.plane_geom.specs.declared.window.Window.{Window}
use Rattle.rule_model.specs.Tiling.{Tiling}
use Rattle.window_cover.specs.Windows.{TileOf, MeetsWindow}
use Rattle.c_values.specs.declared.plain_tile.PlainTile.{PlainTile}
use Rattle.c_values.specs.declared.plain_window.PlainWindow.{PlainWindow}
use Rattle.c_values.specs.Statuses.{ok, bad_words}
use Rattle.c_values.specs.Tiles.{motion_of}
use Rattle.c_values.specs.Windows.{window_in, GivesWindow}
use Rattle.tiling_c.specs.Arrays.{plain_tile_at}
use Rattle.tiling_c.specs.Shapes.{IsPlainTile}

-- the tile of this kind at this place; the digits of an address say nothing of where a tile lies
abbrev pub tile_given : (t : Tiling) → PlainTile → TileOf t
tile_given t p = record {
  address = record { kind = p.kind; digits = [] };
  motion = motion_in t.order (motion_of p);
}

-- The flag is 0 or 1. It is 1 exactly if the tile meets the window.
pub record ShowsMeeting (t : Tiling) (w : Window) (tile : PlainTile) (flag : ℕ) : Type 0 where
  pub zero_or_one : flag ≤ 1
  pub meets : (flag ≡ 1) ↔ MeetsWindow t w (tile_given t tile)

-- the numbers give a window, each entry is a tile of the rule, and there are as many flags as tiles
pub record AsksWhichMeet (t : Tiling) (window : PlainWindow) (tiles : List PlainTile)
    (flags : List ℕ) : Type 0 where
  pub window_given : GivesWindow window
  pub are_tiles : All (IsPlainTile t) tiles
  pub same_length : length flags ≡ length tiles

-- what a call shows of a window and an array of tiles: a flag for each tile, or that the numbers give none
pub record ShowsWhichMeet (t : Tiling) (window : PlainWindow) (tiles : List PlainTile)
    (flags new_flags : List ℕ) (status : ℕ) : Type 0 where
  -- in the plane: some point inside the window belongs to the tile, as for the tiles of a window
  pub each : status ≡ ok → (i : ℕ) → i < length tiles
      → ShowsMeeting t (window_in t.order window) (plain_tile_at tiles i) (get_or new_flags i 0)
  pub not_asked : (status ≡ bad_words) ↔ (¬ AsksWhichMeet t window tiles flags)
  pub statuses : (status ≡ ok) ⊎ (status ≡ bad_words)
