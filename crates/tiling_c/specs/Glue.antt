-- The whole tiles of a window in a caller's array.
use Rattle.std.specs.Prelude.{◌≡◌, ◌↔◌, ◌⊎◌, ◌<◌, ◌≤◌, ℕ, List, [], length, min, drop, get_or, slice_get, None, IfSome}
use Rattle.c_values.specs.Tiles.{refused_as}
use Rattle.half_glue.specs.declared.glue_fault.GlueFault.{GlueFault}
use Rattle.half_glue.specs.declared.glue_fault.GlueFault.TheVariants.{DepthLimit, CoordLimit, NoMemory}
use Rattle.half_glue.specs.declared.whole_tile.WholeTile.{WholeTile}
use Rattle.half_glue.specs.Causes.{HasGlueCause}
use Rattle.half_glue.specs.Covering.{WholesCover}
use Rattle.half_glue.specs.Depth.{IsLeastForGlue}
use Rattle.half_glue.specs.InOrder.{AreWholesInOrder}
use Rattle.half_glue.specs.Limits.{CanBeGlued}
use Rattle.half_glue.specs.Outline.{whole_parts}
use Rattle.half_glue.specs.WholeTiles.{AreWholeTilesOf}
use Rattle.theory_walks.specs.Frames.{FrameValue, GrowsTo}
use Rattle.theory_windows.specs.Limits.{most_tiles}
use Rattle.plane_geom.specs.declared.window.Window.{Window}
use Rattle.rule_model.specs.Tiling.{Tiling}
use Rattle.tile_app.specs.Glue.{CanBeGluedInWindow}
use Rattle.tile_app.specs.TilesOfWindow.{TilesOfWindow}
use Rattle.tile_place.specs.declared.placed_tile.PlacedTile.{PlacedTile}
use Rattle.window_cover.specs.Limits.{IsCoverWithinLimits}
use Rattle.window_cover.specs.Windows.{box_of}
use Rattle.c_values.specs.declared.plain_address.PlainAddress.{PlainAddress}
use Rattle.c_values.specs.declared.plain_frame.PlainFrame.{PlainFrame}
use Rattle.c_values.specs.declared.plain_tile.PlainTile.{PlainTile}
use Rattle.c_values.specs.declared.plain_whole_tile.PlainWholeTile.{PlainWholeTile}
use Rattle.c_values.specs.declared.plain_window.PlainWindow.{PlainWindow}
use Rattle.c_values.specs.Addresses.{NamesTile, ShowsAddress, blank_address}
use Rattle.c_values.specs.Frames.{frame_in}
use Rattle.c_values.specs.Statuses.{ok, bad_words, bad_address, depth_limit, coord_limit, no_memory}
use Rattle.c_values.specs.Windows.{window_in, GivesWindow}
use Rattle.tiling_c.specs.Arrays.{plain_tile_at, plain_address_at}
use Rattle.tiling_c.specs.Cover.{EndsCover}
use Rattle.tiling_c.specs.FramedWindow.{RefusesFramedWindow}
use Rattle.tiling_c.specs.Shown.{tile_shown, address_shown}

-- the numbers are those of this tile, and of its address
pub record ShowsTile (x : PlacedTile) (tile : PlainTile) (addr : PlainAddress) : Type 0 where
  pub its_numbers : tile ≡ tile_shown x
  pub its_address : ShowsAddress addr (address_shown x)

-- the numbers are those of the parts of a whole tile, and there are as many as it has
pub record ShowsWhole (whole : WholeTile) (p : PlainWholeTile) : Type 0 where
  pub first : ShowsTile whole.first (plain_tile_at p.tiles 0) (plain_address_at p.addrs 0)
  pub second : IfSome whole.second (λ x. ShowsTile x (plain_tile_at p.tiles 1) (plain_address_at p.addrs 1))
  pub no_second : whole.second ≡ None
      → (plain_tile_at p.tiles 1 ≡ refused_as 0) × (plain_address_at p.addrs 1 ≡ blank_address)
  pub count : p.parts ≡ length (whole_parts whole)

-- what stands for no whole tile
abbrev pub no_whole : PlainWholeTile
no_whole = record { tiles = []; addrs = []; parts = 0 }

-- The whole tiles are at the front of an array, as many as it has room for. The entries after them are as
-- they were.
pub record HoldsWholes (all : List WholeTile) (old new : List PlainWholeTile) : Type 0 where
  pub each : (i : ℕ) → i < min (length all) (length old)
      → IfSome (slice_get all i) (λ w. ShowsWhole w (get_or new i no_whole))
  pub behind : drop (min (length all) (length old)) new ≡ drop (min (length all) (length old)) old

-- All of these tiles of the frame can be glued. The frame has grown on to the least depth at which no glue
-- edge of theirs is on the boundary. These are exactly their whole tiles, each once and in order.
pub record FindsWholes (t : Tiling) (frame : FrameValue) (tiles : List PlacedTile)
    (glued_frame : FrameValue) (all : List WholeTile) : Type 0 where
  pub can_be_glued : CanBeGlued t frame tiles
  pub grown : GrowsTo t frame glued_frame
  pub least : IsLeastForGlue t frame tiles (length glued_frame.digits)
  pub whole_tiles : AreWholeTilesOf t glued_frame tiles all
  pub in_order : AreWholesInOrder all

-- `count` is the number of these whole tiles, and they are in the array, as far as there is room
pub record ShowsGlued (t : Tiling) (frame : FrameValue) (tiles : List PlacedTile)
    (old new : List PlainWholeTile) (count : ℕ) : Type 0 where
  pub glued_frame : FrameValue
  pub all : List WholeTile
  pub glued : FindsWholes t frame tiles glued_frame all
  pub number : count ≡ length all
  pub held : HoldsWholes all old new

-- The tiles are exactly those of a frame, grown from `start`, that meet the window. These are their whole
-- tiles, and they cover the window.
pub record ShowsWholes (t : Tiling) (start : FrameValue) (window : Window) (old new : List PlainWholeTile)
    (count : ℕ) : Type 0 where
  pub frame : FrameValue
  pub tiles : List PlacedTile
  pub exactly : TilesOfWindow t start window frame tiles
  pub glued : ShowsGlued t frame tiles old new count
  pub at_most : count ≤ most_tiles
  pub cover : WholesCover t (box_of t window) glued.all

-- the status of each fault
abbrev pub code_of_glue : GlueFault → ℕ
code_of_glue (DepthLimit addr edge) = depth_limit
code_of_glue (CoordLimit value) = coord_limit
code_of_glue NoMemory = no_memory

-- the tiles of the frame can't be glued, for a cause, and this is its status
pub record StopsGluing (t : Tiling) (frame : FrameValue) (tiles : List PlacedTile) (status : ℕ) : Type 0 where
  pub glued_frame : FrameValue
  pub grown : GrowsTo t frame glued_frame
  pub fault : GlueFault
  pub cause : HasGlueCause t frame glued_frame tiles fault
  pub is_status : status ≡ code_of_glue fault

-- the tiles are those of the window, and they can't be glued
pub record EndsGlue (t : Tiling) (start : FrameValue) (window : Window) (status : ℕ) : Type 0 where
  pub frame : FrameValue
  pub tiles : List PlacedTile
  pub exactly : TilesOfWindow t start window frame tiles
  pub ended : StopsGluing t frame tiles status

-- the search for the tiles has a cause to end, or their gluing has
abbrev pub EndsWholes : Tiling → FrameValue → Window → ℕ → Type 0
EndsWholes t start window status = EndsCover t start window status ⊎ EndsGlue t start window status

-- the tiles of the frame can't be glued, for a cause, which is want of memory if all of them can
pub record RefusesGluing (t : Tiling) (frame : FrameValue) (tiles : List PlacedTile)
    (status : ℕ) : Type 0 where
  pub ended : StopsGluing t frame tiles status
  pub answered : CanBeGlued t frame tiles → status ≡ no_memory

-- the numbers give a frame and a window, and these are the whole tiles of its tiles
pub record GivesWholes (t : Tiling) (frame : PlainFrame) (window : PlainWindow)
    (all : List WholeTile) : Type 0 where
  pub window_given : GivesWindow window
  pub named : NamesTile t frame.base
  pub within : IsCoverWithinLimits t (frame_in frame) (window_in t.order window)
  pub grown_frame : FrameValue
  pub tiles : List PlacedTile
  pub exactly : TilesOfWindow t (frame_in frame) (window_in t.order window) grown_frame tiles
  pub glued_frame : FrameValue
  pub glued : FindsWholes t grown_frame tiles glued_frame all
  pub few : length all ≤ most_tiles
  pub cover : WholesCover t (box_of t (window_in t.order window)) all

-- the numbers give a frame and a window, and the search or the gluing ended
pub record StopsWholes (t : Tiling) (frame : PlainFrame) (window : PlainWindow) (status : ℕ) : Type 0 where
  pub window_given : GivesWindow window
  pub named : NamesTile t frame.base
  pub ended : EndsWholes t (frame_in frame) (window_in t.order window) status
  pub answered : IsCoverWithinLimits t (frame_in frame) (window_in t.order window)
      → CanBeGluedInWindow t (frame_in frame) (window_in t.order window) → status ≡ no_memory

-- they give none, or it ended
abbrev pub RefusesWholes : Tiling → PlainFrame → PlainWindow → ℕ → Type 0
RefusesWholes t frame window status = RefusesFramedWindow t frame window status
    ⊎ StopsWholes t frame window status

-- What a call shows of a frame and a window: the whole tiles in the caller's array with their number, or the
-- status of a refusal.
pub record ShowsGlue (t : Tiling) (frame : PlainFrame) (window : PlainWindow)
    (old new : List PlainWholeTile) (count status : ℕ) : Type 0 where
  -- Exactly the whole tiles of the tiles that meet the window, each exactly once, in its place and in order.
  -- The depth is the least that is enough, and the whole tiles cover the window.
  pub wholes : status ≡ ok → ShowsWholes t (frame_in frame) (window_in t.order window) old new count
  -- The call succeeds if the window is within the limits and its tiles can be glued, unless memory runs out.
  -- Each refusal comes only for its cause.
  pub within : status ≡ ok → IsCoverWithinLimits t (frame_in frame) (window_in t.order window)
  pub answered : GivesWindow window → NamesTile t frame.base
      → IsCoverWithinLimits t (frame_in frame) (window_in t.order window)
      → CanBeGluedInWindow t (frame_in frame) (window_in t.order window)
      → (status ≡ ok) ⊎ (status ≡ no_memory)
  pub not_asked : (status ≡ bad_words) ↔ (¬ GivesWindow window)
  pub names_none : (status ≡ bad_address) ↔ (GivesWindow window × (¬ NamesTile t frame.base))
  pub ended : ¬ status ≡ ok → ¬ status ≡ bad_words → ¬ status ≡ bad_address
      → EndsWholes t (frame_in frame) (window_in t.order window) status
