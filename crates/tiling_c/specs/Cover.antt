-- The tiles of a window in a caller's arrays.
use Rattle.std.specs.Prelude.{◌≡◌, ◌↔◌, ◌⊎◌, ℕ, List, length, map, min, take, drop, All, ◌≤◌}
use Rattle.theory_walks.specs.Frames.{FrameValue, GrowsTo}
use Rattle.theory_windows.specs.Limits.{most_tiles}
use Rattle.plane_geom.specs.declared.window.Window.{Window}
use Rattle.rule_model.specs.Tiling.{Tiling}
use Rattle.tile_place.specs.declared.placed_tile.PlacedTile.{PlacedTile}
use Rattle.tile_app.specs.TilesOfWindow.{TilesOfWindow}
use Rattle.window_cover.specs.declared.cover_fault.CoverFault.{CoverFault}
use Rattle.window_cover.specs.declared.cover_fault.CoverFault.TheVariants.{DepthLimit, CoordLimit, TooManyTiles, NoMemory}
use Rattle.window_cover.specs.Causes.{HasCoverCause}
use Rattle.window_cover.specs.Limits.{IsCoverWithinLimits}
use Rattle.c_values.specs.declared.plain_address.PlainAddress.{PlainAddress}
use Rattle.c_values.specs.declared.plain_frame.PlainFrame.{PlainFrame}
use Rattle.c_values.specs.declared.plain_tile.PlainTile.{PlainTile}
use Rattle.c_values.specs.declared.plain_window.PlainWindow.{PlainWindow}
use Rattle.c_values.specs.Addresses.{address_in, NamesTile}
use Rattle.c_values.specs.Frames.{frame_in}
use Rattle.c_values.specs.Statuses.{ok, bad_words, bad_address, depth_limit, coord_limit, too_many_tiles, no_memory}
use Rattle.c_values.specs.Windows.{window_in, GivesWindow}
use Rattle.tiling_c.specs.FramedWindow.{RefusesFramedWindow}
use Rattle.tiling_c.specs.Shown.{tile_shown, address_shown}

-- how many of these tiles an array holds: all of them, or as many as it has room for
abbrev pub held : List PlacedTile → ℕ → ℕ
held all room = min (length all) room

-- the tiles are at the front of an array, as many as it has room for, and the entries after them are
-- unchanged
pub record HoldsTiles (all : List PlacedTile) (old new : List PlainTile) : Type 0 where
  pub front : take (held all (length old)) new ≡ map tile_shown (take (held all (length old)) all)
  pub behind : drop (held all (length old)) new ≡ drop (held all (length old)) old

-- the same holds for their addresses in another array
pub record HoldsAddresses (all : List PlacedTile) (old new : List PlainAddress) : Type 0 where
  pub front : map address_in (take (held all (length old)) new)
      ≡ map address_shown (take (held all (length old)) all)
  pub no_deeper : All (λ (p : PlainAddress). p.depth ≤ 64) (take (held all (length old)) new)
  pub behind : drop (held all (length old)) new ≡ drop (held all (length old)) old

-- These are exactly the tiles of a frame, grown from `start`, that meet the window. Each comes exactly once,
-- in order, and they cover the window. `count` is their number. They and their addresses are in the arrays,
-- as far as there is room.
pub record IsCover (t : Tiling) (start : FrameValue) (window : Window) (tiles new_tiles : List PlainTile)
    (addrs new_addrs : List PlainAddress) (count : ℕ) : Type 0 where
  pub frame : FrameValue
  pub all : List PlacedTile
  pub exactly : TilesOfWindow t start window frame all
  pub number : count ≡ length all
  pub at_most : count ≤ most_tiles
  pub held_tiles : HoldsTiles all tiles new_tiles
  pub held_addresses : HoldsAddresses all addrs new_addrs

-- the status of each fault
abbrev pub status_of : CoverFault → ℕ
status_of (DepthLimit addr edge) = depth_limit
status_of (CoordLimit value) = coord_limit
status_of TooManyTiles = too_many_tiles
status_of NoMemory = no_memory

-- the search for the tiles of the window ended for a cause, in the frame as it had grown then, and this is
-- its status
pub record EndsCover (t : Tiling) (start : FrameValue) (window : Window) (status : ℕ) : Type 0 where
  pub frame : FrameValue
  pub grown : GrowsTo t start frame
  pub fault : CoverFault
  pub cause : HasCoverCause t start frame window fault
  pub is_status : status ≡ status_of fault

-- the numbers give a window, and there is room for no addresses, or for as many addresses as tiles
pub record AsksForWindow (window : PlainWindow) (tiles : List PlainTile)
    (addrs : List PlainAddress) : Type 0 where
  pub window_given : GivesWindow window
  pub lengths : (length addrs ≡ 0) ⊎ (length addrs ≡ length tiles)

-- these are the tiles of a window, within the limits, in the frame that has grown from `start`
pub record FindsTiles (t : Tiling) (start : FrameValue) (window : Window) (frame : FrameValue)
    (all : List PlacedTile) : Type 0 where
  pub exactly : TilesOfWindow t start window frame all
  pub few : length all ≤ most_tiles
  pub within : IsCoverWithinLimits t start window

-- the search ended for a cause, and within the limits that is want of memory
pub record EndsSearch (t : Tiling) (start : FrameValue) (window : Window) (status : ℕ) : Type 0 where
  pub ended : EndsCover t start window status
  pub answered : IsCoverWithinLimits t start window → status ≡ no_memory

-- the numbers give a frame and a window, and these are its tiles
pub record GivesTiles (t : Tiling) (frame : PlainFrame) (window : PlainWindow)
    (all : List PlacedTile) : Type 0 where
  pub window_given : GivesWindow window
  pub named : NamesTile t frame.base
  pub grown_frame : FrameValue
  pub found : FindsTiles t (frame_in frame) (window_in t.order window) grown_frame all

-- the numbers give a frame and a window, and the search ended
pub record StopsSearch (t : Tiling) (frame : PlainFrame) (window : PlainWindow) (status : ℕ) : Type 0 where
  pub window_given : GivesWindow window
  pub named : NamesTile t frame.base
  pub stopped : EndsSearch t (frame_in frame) (window_in t.order window) status

-- they give none, or the search ended
abbrev pub RefusesTiles : Tiling → PlainFrame → PlainWindow → ℕ → Type 0
RefusesTiles t frame window status = RefusesFramedWindow t frame window status
    ⊎ StopsSearch t frame window status

-- What a call shows of a frame and a window: the tiles of the window in the caller's arrays with their
-- number, or the status of a refusal.
pub record ShowsCover (t : Tiling) (frame : PlainFrame) (window : PlainWindow)
    (tiles new_tiles : List PlainTile) (addrs new_addrs : List PlainAddress) (count status : ℕ) : Type 0 where
  -- Exactly the tiles of the frame that meet the window, each exactly once and in its place. The depth is the
  -- least that is enough, and the tiles cover the window.
  pub covers : status ≡ ok → IsCover t (frame_in frame) (window_in t.order window) tiles new_tiles addrs
      new_addrs count
  -- The call succeeds exactly within the limits, unless memory runs out, and each refusal comes only for its
  -- cause.
  pub within : status ≡ ok → IsCoverWithinLimits t (frame_in frame) (window_in t.order window)
  pub answered : AsksForWindow window tiles addrs → NamesTile t frame.base
      → IsCoverWithinLimits t (frame_in frame) (window_in t.order window)
      → (status ≡ ok) ⊎ (status ≡ no_memory)
  pub not_asked : (status ≡ bad_words) ↔ (¬ AsksForWindow window tiles addrs)
  pub names_none : (status ≡ bad_address)
      ↔ (AsksForWindow window tiles addrs × (¬ NamesTile t frame.base))
  pub ended : ¬ status ≡ ok → ¬ status ≡ bad_words → ¬ status ≡ bad_address
      → EndsCover t (frame_in frame) (window_in t.order window) status
