-- Listings of a window on a frame of a tiling, and when one is right.
use Rattle.std.specs.Prelude.{◌≡◌, ℕ, List, map, length, None, Result, Ok}
use Rattle.std.specs.List.{AllByRecursion}
use Rattle.cyclo_points.specs.Order.{points_of, is_refused}
use Rattle.cyclo_points.specs.Point.{point_in, IsOf}
use Rattle.cyclo_points.specs.Motion.{motion_in}
use Rattle.plane_geom.specs.declared.window.Window.{Window}
use Rattle.rule_model.specs.Tiling.{Tiling, children}
use Rattle.theory_walks.specs.Ancestors.{full}
use Rattle.theory_walks.specs.Containing.{first_refused_outward}
use Rattle.theory_walks.specs.Frames.{FrameValue}
use Rattle.listing_text.specs.declared.listing_fault.ListingFault.{ListingFault}
use Rattle.listing_text.specs.Listing.{Entry, listing_in}
use Rattle.theory_listings.specs.FrameListing.{IsRightListing, AreUnrefused, AreAllListed, NamesMeeting}
use Rattle.theory_listings.specs.Lines.{IsFirstLine}
use Rattle.window_cover.specs.Windows.{TileOf, box_of}

-- a line as a tile, by its address and its motion
abbrev pub tile_listed : (t : Tiling) → Entry → TileOf t
tile_listed t e = record { address = e.address; motion = motion_in t.order e.motion }

abbrev pub tiles_listed : (t : Tiling) → List Entry → List (TileOf t)
tiles_listed t entries = map (tile_listed t) entries

-- each shift is a number of the order: in orders four and six its last two coefficients are 0
abbrev pub AreOfOrder : Tiling → List Entry → Type 0
AreOfOrder t entries = AllByRecursion (λ (e : Entry). IsOf t.order e.motion.shift) entries

-- The listing is right for the window on the frame. Let n be the least depth, up to 64, that is enough for
-- the window, and not below the frame's or a listed one. There is such a depth, each address is of the frame
-- at depth n, and the lines, lifted to depth n, are exactly the tiles there that meet the window. Each is
-- listed exactly once, with its motion.
pub record IsRightFor (t : Tiling) (f : FrameValue) (w : Window) (entries : List Entry) : Type 0 where
  pub of_order : AreOfOrder t entries
  pub right : IsRightListing (points_of t.order) t.rule (full t f) (box_of t w) (length f.digits)
      (tiles_listed t entries)

-- what is read of a listing: its entries, or its first fault
abbrev pub Reading : Type 0
Reading = Result (List Entry) ListingFault

-- n entries are read, and they are right. No value on the way to the centre is refused, and no shift of a
-- tile that meets the window.
pub record IsRightReading (t : Tiling) (f : FrameValue) (w : Window) (reading : Reading)
    (n : ℕ) : Type 0 where
  pub entries : List Entry
  pub read : reading ≡ Ok entries
  pub count : n ≡ length entries
  pub right : IsRightFor t f w entries
  pub unrefused : AreUnrefused (is_refused t.order) (tiles_listed t entries)
  pub centre_found : first_refused_outward t f (point_in t.order w.centre) ≡ None

-- the text is read as a right listing of n lines
abbrev pub IsVerified : Tiling → FrameValue → Window → List ℕ → ℕ → Type 0
IsVerified t f w text n = IsRightReading t f w (listing_in (children t) text) n

-- the tile that an address names in the frame meets the window
abbrev pub NamesTileThere : Tiling → FrameValue → Window → Entry → Type 0
NamesTileThere t f w e = NamesMeeting (points_of t.order) t.rule (full t f) (box_of t w) e.address

-- There is such a depth n. Each tile there that meets the window has a line with its motion, and no refused
-- shift.
pub record HasAllTiles (t : Tiling) (f : FrameValue) (w : Window) (m : ℕ)
    (entries : List Entry) : Type 0 where
  pub all_listed : AreAllListed (points_of t.order) (is_refused t.order) t.rule (full t f) (box_of t w) m
      (tiles_listed t entries)
  pub of_order : AllByRecursion (λ (e : Entry). NamesTileThere t f w e → IsOf t.order e.motion.shift) entries

-- This holds, and line i, counted from 0, is the first whose tile does not meet the window.
pub record HasStray (t : Tiling) (f : FrameValue) (w : Window) (m : ℕ) (entries : List Entry)
    (i : ℕ) : Type 0 where
  pub all_tiles : HasAllTiles t f w m entries
  pub first : IsFirstLine (λ e. ¬ NamesTileThere t f w e) entries i
