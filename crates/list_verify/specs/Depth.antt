-- The depth to which a listing grows a frame.
use Rattle.std.specs.Prelude.{◌≡◌, ℕ, List, length, Ok}
use Rattle.cyclo_points.specs.Order.{points_of}
use Rattle.plane_geom.specs.declared.window.Window.{Window}
use Rattle.rule_model.specs.Tiling.{Tiling, children}
use Rattle.theory_walks.specs.Ancestors.{full}
use Rattle.theory_walks.specs.Frames.{FrameValue}
use Rattle.listing_text.specs.Listing.{Entry, listing_in}
use Rattle.theory_listings.specs.FrameListing.{deepest_listed}
use Rattle.theory_windows.specs.FrameWindow.{IsLeastDepth}
use Rattle.window_cover.specs.Windows.{box_of}
use Rattle.list_verify.specs.Listing.{tiles_listed, Reading}

-- n is the greater of the frame's depth and the greatest depth of an entry
pub record IsDepthRead (t : Tiling) (f : FrameValue) (reading : Reading) (n : ℕ) : Type 0 where
  pub entries : List Entry
  pub read : reading ≡ Ok entries
  pub is : n ≡ deepest_listed (length f.digits) (tiles_listed t entries)

-- n is the least depth that is enough for the window and not below that one
pub record IsEnoughRead (t : Tiling) (f : FrameValue) (w : Window) (reading : Reading) (n : ℕ) : Type 0 where
  pub entries : List Entry
  pub read : reading ≡ Ok entries
  pub least : IsLeastDepth (points_of t.order) t.rule (full t f) (box_of t w)
      (deepest_listed (length f.digits) (tiles_listed t entries)) n

-- the same of what a text is read as
abbrev pub IsListedDepth : Tiling → FrameValue → List ℕ → ℕ → Type 0
IsListedDepth t f listing n = IsDepthRead t f (listing_in (children t) listing) n

abbrev pub IsEnoughListed : Tiling → FrameValue → Window → List ℕ → ℕ → Type 0
IsEnoughListed t f w listing n = IsEnoughRead t f w (listing_in (children t) listing) n
