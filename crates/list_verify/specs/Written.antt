-- What is written of the tiles of a window: one line each.
use Rattle.std.specs.Prelude.{◌≡◌, ◌≤◌, ℕ, List, map, length}
use Rattle.std.specs.List.{AllByRecursion}
use Rattle.theory_walks.specs.Frames.{FrameValue, GrowsTo}
use Rattle.listing_text.specs.Limits.{most_lines}
use Rattle.listing_text.specs.Lines.{lines_in}
use Rattle.listing_text.specs.Listing.{Entry}
use Rattle.listing_text.specs.Written.{entries_text}
use Rattle.plane_geom.specs.declared.window.Window.{Window}
use Rattle.rule_model.specs.Tiling.{Tiling}
use Rattle.tile_place.specs.declared.placed_tile.PlacedTile.{PlacedTile}
use Rattle.tile_shape.specs.Views.{address_of}
use Rattle.list_verify.specs.Depth.{IsListedDepth, IsEnoughListed}
use Rattle.list_verify.specs.Listing.{IsVerified}

-- a tile as an entry
abbrev pub tile_entry : PlacedTile → Entry
tile_entry tile = record { motion = tile.motion; address = address_of tile.addr }

abbrev pub tile_entries : List PlacedTile → List Entry
tile_entries tiles = map tile_entry tiles

-- the text is what is written of these tiles, whose shifts have four coefficients each
pub record IsWrittenOf (tiles : List PlacedTile) (text : List ℕ) : Type 0 where
  pub is : text ≡ entries_text (tile_entries tiles)
  pub four : AllByRecursion (λ (tile : PlacedTile). length tile.motion.shift.c ≡ 4) tiles

-- The text is a right listing of n lines, which are not too many. The frame has grown to the depth of its
-- lines, and no further than is enough.
pub record IsListedAs (t : Tiling) (f g : FrameValue) (w : Window) (text : List ℕ) (n : ℕ) : Type 0 where
  pub grows : GrowsTo t f g
  pub depth : IsListedDepth t f text (length g.digits)
  pub not_beyond : (k : ℕ) → IsEnoughListed t f w text k → length g.digits ≤ k
  pub few : length (lines_in text) ≤ most_lines
  pub right : IsVerified t f w text n
