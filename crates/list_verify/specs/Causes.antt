-- Why a tile to which the walk comes is not found among the lines.
use Rattle.std.specs.Prelude.{◌≡◌, ℕ, List, slice_get, Some}
use Rattle.theory_addresses.specs.Search.{IsAmong}
use Rattle.cyclo_points.specs.declared.motion.Motion.{Motion}
use Rattle.cyclo_points.specs.Point.{IsOf}
use Rattle.cyclo_points.specs.Motion.{motion_in}
use Rattle.theory_frames.specs.Frame.{lifted_in}
use Rattle.plane_geom.specs.declared.window.Window.{Window}
use Rattle.rule_model.specs.Tiling.{Tiling}
use Rattle.tile_shape.specs.declared.address.Address.{Address}
use Rattle.tile_shape.specs.Views.{address_of}
use Rattle.theory_walks.specs.Frames.{FrameValue, whole}
use Rattle.listing_text.specs.Listing.{Entry}
use Rattle.window_cover.specs.Windows.{TileOf, MeetsWindow, IsOfFrame}

-- The tile of this address is of the frame, at the frame's own depth, and meets the window. It is the tile of
-- no line's address, lifted to that depth.
pub record IsMissingTile (t : Tiling) (g : FrameValue) (w : Window) (entries : List Entry)
    (addr : Address) : Type 0 where
  pub tile : TileOf t
  pub its_address : tile.address ≡ address_of addr
  pub of_frame : IsOfFrame t g tile
  pub tile_meets : MeetsWindow t w tile
  pub no_line : (e : Entry) → IsAmong e entries → ¬ (lifted_in (whole g) e.address ≡ address_of addr)

-- The tile of line i, counted from 0, lifted to the frame's own depth, meets the window. It has this motion,
-- and the line has another.
pub record IsMisplaced (t : Tiling) (g : FrameValue) (w : Window) (entries : List Entry) (i : ℕ)
    (motion : Motion) : Type 0 where
  pub entry : Entry
  pub is_line : slice_get entries i ≡ Some entry
  pub tile : TileOf t
  pub its_address : tile.address ≡ lifted_in (whole g) entry.address
  pub of_frame : IsOfFrame t g tile
  pub tile_meets : MeetsWindow t w tile
  pub its_motion : tile.motion ≡ motion_in t.order motion
  pub in_order : IsOf t.order motion.shift
  pub other : ¬ (entry.motion ≡ motion)
