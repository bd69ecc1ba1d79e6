-- What a walk through lines has found out at its end, and why it stops before.
use Rattle.std.specs.Prelude.{◌≡◌, ◌⊎◌, ℕ, ◌+◌, ◌<◌, Bool, true, false, List, length, slice_get, Some, None}
use Rattle.std.specs.declared.option.Option.{Option}
use Rattle.cyclo_points.specs.Order.{NumberOf, points_of, is_refused}
use Rattle.cyclo_points.specs.Point.{point_in}
use Rattle.plane_geom.specs.declared.window.Window.{Window}
use Rattle.rule_model.specs.Tiling.{Tiling}
use Rattle.theory_walks.specs.Ancestors.{full}
use Rattle.theory_walks.specs.Containing.{first_refused_outward}
use Rattle.theory_walks.specs.Frames.{FrameValue}
use Rattle.listing_text.specs.Listing.{Entry}
use Rattle.theory_listings.specs.FrameListing.{IsRightListing, AreUnrefused}
use Rattle.window_cover.specs.Causes.{IsCoverDepthLimit, IsFirstRefused, IsRefusedShift}
use Rattle.window_cover.specs.Windows.{box_of}
use Rattle.list_verify.specs.declared.list_fault.ListFault.{ListFault}
use Rattle.list_verify.specs.declared.list_fault.ListFault.TheVariants.{Missing, WrongPlace, Stray, DepthLimit, CoordLimit}
use Rattle.list_verify.specs.Causes.{IsMissingTile, IsMisplaced}
use Rattle.list_verify.specs.Listing.{tiles_listed, AreOfOrder, HasAllTiles, HasStray}

-- line i, counted from 0, is the first that is not marked
pub record IsFirstUnmarked (marks : List Bool) (i : ℕ) : Type 0 where
  pub unmarked : slice_get marks i ≡ Some false
  pub first : (j : ℕ) → j < i → slice_get marks j ≡ Some true

-- Each tile that meets the window has its line. If all lines are marked, they are right. Otherwise the first
-- line that is not marked is stray.
pub record Tells (t : Tiling) (f : FrameValue) (w : Window) (entries : List Entry)
    (marks : List Bool) : Type 0 where
  pub all_tiles : HasAllTiles t f w (length f.digits) entries
  pub right : ((i : ℕ) → i < length marks → slice_get marks i ≡ Some true)
      → IsRightListing (points_of t.order) t.rule (full t f) (box_of t w) (length f.digits)
      (tiles_listed t entries)
      × AreUnrefused (is_refused t.order) (tiles_listed t entries) × AreOfOrder t entries
  pub stray : (i : ℕ) → IsFirstUnmarked marks i → HasStray t f w (length f.digits) entries i

-- the first refused value on the way to the centre
abbrev pub first_refused_at : (t : Tiling) → FrameValue → Window → Option (NumberOf t.order)
first_refused_at t f w = first_refused_outward t f (point_in t.order w.centre)

-- the cause of each fault of the walk; the frame was f, and is g
abbrev pub StopsFor : Tiling → FrameValue → FrameValue → Window → List Entry → ListFault → Type 0
StopsFor t f g w entries (Missing addr) = IsMissingTile t g w entries addr
StopsFor t f g w entries (WrongPlace line motion) = (i : ℕ) × (line ≡ i + 1)
    × IsMisplaced t g w entries i motion
StopsFor t f g w entries (DepthLimit addr edge) = IsCoverDepthLimit t g w addr edge
StopsFor t f g w entries (CoordLimit value) = IsFirstRefused t f w value ⊎ IsRefusedShift t g w value
StopsFor t f g w entries fault = ⊥

-- the walk has this cause to stop; and unless a value on the way to the centre is refused, some tile that
-- meets the window lacks its line
pub record IsStoppedBy (t : Tiling) (f g : FrameValue) (w : Window) (entries : List Entry)
    (fault : ListFault) : Type 0 where
  pub cause : StopsFor t f g w entries fault
  pub not_all : first_refused_at t f w ≡ None → ¬ HasAllTiles t f w (length f.digits) entries

-- The lines are right, and no shift of theirs is refused. Each shift is a number of the order. No value on
-- the way to the centre is refused.
pub record AreRightLines (t : Tiling) (f : FrameValue) (w : Window) (entries : List Entry) : Type 0 where
  pub right : IsRightListing (points_of t.order) t.rule (full t f) (box_of t w) (length f.digits)
      (tiles_listed t entries)
  pub unrefused : AreUnrefused (is_refused t.order) (tiles_listed t entries)
  pub of_order : AreOfOrder t entries
  pub centre_found : first_refused_at t f w ≡ None

-- the fault is that of a stray line, and no value on the way to the centre is refused
pub record IsStrayFault (t : Tiling) (f : FrameValue) (w : Window) (entries : List Entry)
    (fault : ListFault) : Type 0 where
  pub number : ℕ
  pub is : fault ≡ Stray (number + 1)
  pub centre_found : first_refused_at t f w ≡ None
  pub stray : HasStray t f w (length f.digits) entries number
