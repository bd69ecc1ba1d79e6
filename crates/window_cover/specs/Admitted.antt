-- A new tile, added to those found.
use Rattle.std.specs.Prelude.{◌≡◌, ◌<◌, ◌≤◌, ◌^◌, true, false, List, [], ◌∷◌, ◌++◌, length}
use Rattle.cyclo_points.specs.declared.point.Point.{Point}
use Rattle.cyclo_points.specs.Order.{is_refused}
use Rattle.cyclo_points.specs.Point.{point_in, IsWithin}
use Rattle.rule_model.specs.Tiling.{Tiling}
use Rattle.tile_place.specs.declared.placed_tile.PlacedTile.{PlacedTile}
use Rattle.tile_place.specs.Corners.{AreCorners}
use Rattle.tile_shape.specs.Views.{address_of}
use Rattle.window_cover.specs.declared.cover_fault.CoverFault.{CoverFault}
use Rattle.window_cover.specs.declared.cover_fault.CoverFault.TheVariants.{DepthLimit, CoordLimit, TooManyTiles, NoMemory}
use Rattle.window_cover.specs.Found.{Found}
use Rattle.theory_windows.specs.Limits.{most_tiles}
use Rattle.window_cover.specs.NewEdges.{left_open, opened}
use Rattle.window_cover.specs.Working.{Working}

-- the tile as it is found
abbrev pub found_as : PlacedTile → Found
found_as tile = record { kind = tile.kind; motion = tile.motion; digits = (address_of tile.addr).digits }

-- The tile is added to those found. There was room for it, and its shift is not refused. The open edges that
-- its edges meet are closed. Those of its own edges that meet the window, and meet no open edge, are opened.
pub record IsAdmitted (t : Tiling) (c d : Working) (tile : PlacedTile) : Type 0 where
  pub unrefused : is_refused t.order (point_in t.order tile.motion.shift) ≡ false
  pub shift_within : IsWithin (2 ^ 24) tile.motion.shift
  pub room : length c.found < most_tiles
  pub same_window : d.window ≡ c.window
  pub found : d.found ≡ c.found ++ found_as tile ∷ []
  pub corners : List Point
  pub are_corners : AreCorners t tile.kind tile.motion corners
  pub border : d.border
      ≡ left_open corners (length corners) c.border
      ++ opened t.order c.window (length c.found) corners (length corners) c.border

-- why it is not added: its shift is refused; or it is not, and there are as many tiles as the limit already
abbrev pub IsNotAdmitted : Tiling → Working → PlacedTile → CoverFault → Type 0
IsNotAdmitted t c tile (DepthLimit addr edge) = ⊥
IsNotAdmitted t c tile (CoordLimit value) = (value ≡ tile.motion.shift)
    × (is_refused t.order (point_in t.order tile.motion.shift) ≡ true)
IsNotAdmitted t c tile TooManyTiles = (most_tiles ≤ length c.found)
    × (is_refused t.order (point_in t.order tile.motion.shift) ≡ false)
IsNotAdmitted t c tile NoMemory = Unit {0}
