-- Arrays of tiles and addresses as a list of the tiles of a window: when it is right, and what is wrong with
-- it.
use Rattle.std.specs.Prelude.{◌≡◌, ◌↔◌, ◌⊎◌, ℕ, ◌-◌, ◌<◌, ◌≤◌, List, [], ◌∷◌, length, None, Ok}
use Rattle.cyclo_points.specs.Order.{is_refused}
use Rattle.cyclo_points.specs.Point.{point_in}
use Rattle.theory_listings.specs.FrameListing.{AreUnrefused}
use Rattle.theory_walks.specs.Containing.{first_refused_outward}
use Rattle.theory_walks.specs.Frames.{FrameValue, GrowsTo}
use Rattle.plane_geom.specs.declared.window.Window.{Window}
use Rattle.rule_model.specs.Tiling.{Tiling}
use Rattle.listing_text.specs.Limits.{most_lines}
use Rattle.listing_text.specs.Listing.{Entry}
use Rattle.list_verify.specs.declared.list_fault.ListFault.{ListFault}
use Rattle.list_verify.specs.declared.list_fault.ListFault.TheVariants.{NotOfFrame, Double, Missing, WrongPlace, Stray, DepthLimit, CoordLimit, NoMemory}
use Rattle.list_verify.specs.Listing.{IsRightFor, tiles_listed}
use Rattle.list_verify.specs.Verdict.{IsCauseIn}
use Rattle.c_values.specs.declared.plain_address.PlainAddress.{PlainAddress}
use Rattle.c_values.specs.declared.plain_frame.PlainFrame.{PlainFrame}
use Rattle.c_values.specs.declared.plain_tile.PlainTile.{PlainTile}
use Rattle.c_values.specs.declared.plain_window.PlainWindow.{PlainWindow}
use Rattle.c_values.specs.Addresses.{address_in, NamesTile}
use Rattle.c_values.specs.Frames.{frame_in}
use Rattle.c_values.specs.Statuses.{ok, bad_words, bad_address, bad_listing, depth_limit, coord_limit, no_memory}
use Rattle.c_values.specs.Tiles.{motion_of, GivesMotion}
use Rattle.c_values.specs.Windows.{window_in, GivesWindow}
use Rattle.tiling_c.specs.declared.verify.Refusal.{Refusal}
use Rattle.tiling_c.specs.Arrays.{plain_tile_at, plain_address_at}

-- a tile and its address as an entry of a list
abbrev pub entry_given : PlainTile → PlainAddress → Entry
entry_given tile addr = record { motion = motion_of tile; address = address_in addr }

-- the entries of two arrays, in their order
abbrev pub entries_given : List PlainTile → List PlainAddress → List Entry
entries_given [] addrs = []
entries_given (tile ∷ tiles) [] = []
entries_given (tile ∷ tiles) (addr ∷ addrs) = entry_given tile addr ∷ entries_given tiles addrs

-- the address names a tile of the tiling, which has the kind that is given, and the turn and the shift give a
-- motion
pub record IsEntry (t : Tiling) (tile : PlainTile) (addr : PlainAddress) : Type 0 where
  pub named : NamesTile t addr
  pub same_kind : tile.kind ≡ addr.kind
  pub motion_given : GivesMotion t.order tile

-- this holds of each entry
abbrev pub AreEntries : Tiling → List PlainTile → List PlainAddress → Type 0
AreEntries t tiles addrs = (i : ℕ) → i < length tiles
    → IsEntry t (plain_tile_at tiles i) (plain_address_at addrs i)

-- entry i is the first of which it doesn't
pub record IsFirstNoEntry (t : Tiling) (tiles : List PlainTile) (addrs : List PlainAddress)
    (i : ℕ) : Type 0 where
  pub below : i < length tiles
  pub no_entry : ¬ IsEntry t (plain_tile_at tiles i) (plain_address_at addrs i)
  pub first : (j : ℕ) → j < i → IsEntry t (plain_tile_at tiles j) (plain_address_at addrs j)

-- the numbers give a window, and there are as many addresses as tiles, not too many
pub record AsksToVerify (window : PlainWindow) (tiles : List PlainTile)
    (addrs : List PlainAddress) : Type 0 where
  pub window_given : GivesWindow window
  pub same_length : length addrs ≡ length tiles
  pub few : length tiles ≤ most_lines

-- The arrays have exactly the tiles of the frame that meet the window, each exactly once and with its motion,
-- in any order. No value on the way to the window's centre is refused, and no shift of theirs.
pub record AreTilesOf (t : Tiling) (f : FrameValue) (w : Window) (tiles : List PlainTile)
    (addrs : List PlainAddress) : Type 0 where
  pub entries : AreEntries t tiles addrs
  pub right : IsRightFor t f w (entries_given tiles addrs)
  pub unrefused : AreUnrefused (is_refused t.order) (tiles_listed t (entries_given tiles addrs))
  pub centre_found : first_refused_outward t f (point_in t.order w.centre) ≡ None

-- the numbers of faults: an entry that is no tile; one that is not of the frame, or is that of an earlier
-- one; a tile of the window that is missing; one with another motion; one that does not meet the window
abbrev pub fault_no_tile : ℕ
fault_no_tile = 1

abbrev pub fault_of : ListFault → ℕ
fault_of (NotOfFrame line) = 2
fault_of (Double line) = 3
fault_of (Missing addr) = 4
fault_of (WrongPlace line motion) = 5
fault_of (Stray line) = 6
fault_of _ = 0

-- the line that a fault tells, numbered from 1
abbrev pub line_told : ListFault → ℕ
line_told (NotOfFrame line) = line
line_told (Double line) = line
line_told (WrongPlace line motion) = line
line_told (Stray line) = line
line_told _ = 0

-- the status of a fault
abbrev pub status_told : ListFault → ℕ
status_told (DepthLimit addr edge) = depth_limit
status_told (CoordLimit value) = coord_limit
status_told NoMemory = no_memory
status_told _ = bad_listing

-- All entries are tiles, and they are not right, for a cause in the frame as it had grown by then. This is
-- the status of the fault, its number and its index.
pub record IsFaultOfEntries (t : Tiling) (f : FrameValue) (w : Window) (tiles : List PlainTile)
    (addrs : List PlainAddress) (status fault index : ℕ) : Type 0 where
  pub entries : AreEntries t tiles addrs
  pub why : ListFault
  pub frame : FrameValue
  pub grown : GrowsTo t f frame
  pub cause : IsCauseIn t f frame w (Ok (entries_given tiles addrs)) why
  pub its_status : status ≡ status_told why
  pub its_fault : status ≡ bad_listing → fault ≡ fault_of why
  pub some_fault : status ≡ bad_listing → 2 ≤ fault
  pub its_index : status ≡ bad_listing → index ≡ line_told why - 1

-- the first entry that is no tile is told
pub record TellsNoTile (t : Tiling) (tiles : List PlainTile) (addrs : List PlainAddress)
    (status fault index : ℕ) : Type 0 where
  pub is_status : status ≡ bad_listing
  pub is_fault : fault ≡ fault_no_tile
  pub first : IsFirstNoEntry t tiles addrs index

-- the arrays are not those of the window: an entry is no tile, or they are not right
abbrev pub AreWrong : Tiling → FrameValue → Window → List PlainTile → List PlainAddress
    → (status fault index : ℕ) → Type 0
AreWrong t f w tiles addrs status fault index = TellsNoTile t tiles addrs status fault index
    ⊎ IsFaultOfEntries t f w tiles addrs status fault index

-- the arrays are no entries, or memory runs out before they are read
abbrev pub RefusesEntries : Tiling → List PlainTile → List PlainAddress → Refusal → Type 0
RefusesEntries t tiles addrs r = TellsNoTile t tiles addrs r.status r.fault r.index ⊎ (r.status ≡ no_memory)

-- what a call shows of arrays, a frame and a window: that they are right, or the status of a refusal
pub record ShowsVerify (t : Tiling) (frame : PlainFrame) (window : PlainWindow) (tiles : List PlainTile)
    (addrs : List PlainAddress) (status fault index : ℕ) : Type 0 where
  -- the call succeeds if and only if the arrays are right, unless memory runs out
  pub right : status ≡ ok → AreTilesOf t (frame_in frame) (window_in t.order window) tiles addrs
  pub complete : AsksToVerify window tiles addrs → NamesTile t frame.base
      → AreTilesOf t (frame_in frame) (window_in t.order window) tiles addrs
      → (status ≡ ok) ⊎ (status ≡ no_memory)
  -- each refusal comes only for its cause
  pub not_asked : (status ≡ bad_words) ↔ (¬ AsksToVerify window tiles addrs)
  pub names_none : (status ≡ bad_address) ↔ (AsksToVerify window tiles addrs × (¬ NamesTile t frame.base))
  pub wrong : ¬ status ≡ ok → ¬ status ≡ bad_words → ¬ status ≡ bad_address → ¬ status ≡ no_memory
      → AreWrong t (frame_in frame) (window_in t.order window) tiles addrs status fault index
