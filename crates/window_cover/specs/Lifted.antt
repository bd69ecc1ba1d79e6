-- Tiles found, lifted to the depth of a frame.
use Rattle.std.specs.Prelude.{◌≡◌, ◌≤◌, length}
use Rattle.theory_addresses.specs.Address.{depth}
use Rattle.theory_frames.specs.Frame.{lifted_in}
use Rattle.tile_place.specs.declared.placed_tile.PlacedTile.{PlacedTile}
use Rattle.tile_shape.specs.Views.{address_of}
use Rattle.theory_walks.specs.Frames.{FrameValue, whole}
use Rattle.window_cover.specs.Found.{Found, address_found}

-- the tile found is no deeper than the frame
abbrev pub CanBeLifted : FrameValue → Found → Type 0
CanBeLifted f x = depth (address_found x) ≤ length f.digits

-- the tile is the one found, with the frame's digits after its own
pub record IsLifted (f : FrameValue) (x : Found) (tile : PlacedTile) : Type 0 where
  pub same_kind : tile.kind ≡ x.kind
  pub kind_named : tile.addr.kind ≡ x.kind
  pub same_motion : tile.motion ≡ x.motion
  pub its_address : address_of tile.addr ≡ lifted_in (whole f) (address_found x)
