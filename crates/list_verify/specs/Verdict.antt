-- What is said of what is read of a listing, and of its text: that it is right, or for each fault its cause.
use Rattle.std.specs.Prelude.{◌≡◌, ◌⊎◌, ◌↔◌, ℕ, ◌+◌, ◌<◌, ◌≤◌, List, length, None, Result, Err, Ok, IfOk, IfErr, OnOk}
use Rattle.theory_addresses.specs.Address.{Address as TheAddress}
use Rattle.cyclo_points.specs.Order.{points_of}
use Rattle.theory_frames.specs.Frame.{at_level}
use Rattle.plane_geom.specs.declared.window.Window.{Window}
use Rattle.rule_model.specs.Tiling.{Tiling, children}
use Rattle.theory_walks.specs.Ancestors.{full}
use Rattle.theory_walks.specs.Frames.{FrameValue, GrowsTo}
use Rattle.listing_text.specs.declared.listing_fault.ListingFault.{ListingFault}
use Rattle.listing_text.specs.declared.listing_fault.ListingFault.TheVariants as text
use Rattle.listing_text.specs.Limits.{most_lines}
use Rattle.listing_text.specs.Lines.{lines_in}
use Rattle.listing_text.specs.Listing.{Entry, listing_in}
use Rattle.theory_listings.specs.FrameListing.{deepest_listed, AreOfFrame, IsNotOfFrame, IsDouble}
use Rattle.list_verify.specs.declared.list_fault.ListFault.{ListFault}
use Rattle.list_verify.specs.declared.list_fault.ListFault.TheVariants.{TooLong, BadLine, Address, BadKind, NotOfFrame, Double, Missing, WrongPlace, Stray, DepthLimit, CoordLimit, NoMemory}
use Rattle.list_verify.specs.Depth.{IsDepthRead, IsEnoughRead}
use Rattle.list_verify.specs.Listing.{tiles_listed, HasAllTiles, HasStray, Reading, IsRightReading}
use Rattle.list_verify.specs.Walked.{first_refused_at, IsStoppedBy}

-- the faults of the text, as faults of the listing
abbrev pub fault_of_text : ListingFault → ListFault
fault_of_text text.TooLong = TooLong
fault_of_text (text.BadLine line place) = BadLine line place
fault_of_text (text.Address line fault) = Address line fault
fault_of_text (text.BadKind line) = BadKind line
fault_of_text text.NoMemory = NoMemory

-- the base's address in its frame of the depth to which the lines grow it: the greater of its own and the
-- greatest listed one
abbrev pub frame_listed : (t : Tiling) → FrameValue → List Entry → TheAddress
frame_listed t f entries = at_level (full t f) (deepest_listed (length f.digits) (tiles_listed t entries))

-- these entries are read, and the address of each is of that frame
pub record AreOfFrameGrown (t : Tiling) (f : FrameValue) (reading : Reading)
    (entries : List Entry) : Type 0 where
  pub read : reading ≡ Ok entries
  pub of_frame : AreOfFrame (points_of t.order) t.rule (frame_listed t f entries) (tiles_listed t entries)

-- and no two are one, when they are lifted to its depth
pub record AreApart (t : Tiling) (f : FrameValue) (reading : Reading) (entries : List Entry) : Type 0 where
  pub lines : AreOfFrameGrown t f reading entries
  pub none_double : (i : ℕ) → ¬ IsDouble (frame_listed t f entries) (tiles_listed t entries) i

-- entry i, from 0, is the first whose address isn't of the frame
pub record HasNotOfFrame (t : Tiling) (f : FrameValue) (reading : Reading) (i : ℕ) : Type 0 where
  pub entries : List Entry
  pub read : reading ≡ Ok entries
  pub first : IsNotOfFrame (points_of t.order) t.rule (frame_listed t f entries) (tiles_listed t entries) i

-- all are of the frame, and entry i, from 0, is the first that names the tile of an earlier one
pub record HasDouble (t : Tiling) (f : FrameValue) (reading : Reading) (i : ℕ) : Type 0 where
  pub entries : List Entry
  pub lines : AreOfFrameGrown t f reading entries
  pub first : IsDouble (frame_listed t f entries) (tiles_listed t entries) i

-- The entries are apart. No value on the way to the centre is refused. Each tile that meets the window has
-- its entry. Entry i, from 0, is the first whose tile does not meet it.
pub record HasStrayLine (t : Tiling) (f : FrameValue) (w : Window) (reading : Reading) (i : ℕ) : Type 0 where
  pub entries : List Entry
  pub lines : AreApart t f reading entries
  pub centre_found : first_refused_at t f w ≡ None
  pub stray : HasStray t f w (length f.digits) entries i

-- the entries are apart, and the walk through them, in the frame as it had grown then, has this cause to end
pub record EndsWalking (t : Tiling) (f g : FrameValue) (w : Window) (reading : Reading)
    (fault : ListFault) : Type 0 where
  pub entries : List Entry
  pub lines : AreApart t f reading entries
  pub stopped : IsStoppedBy t f g w entries fault

-- The cause of each fault in what is read; the frame was f, and is g. A line has the number of its entry and
-- one more.
abbrev pub IsCauseIn : Tiling → FrameValue → FrameValue → Window → Reading → ListFault → Type 0
IsCauseIn t f g w reading TooLong = reading ≡ Err text.TooLong
IsCauseIn t f g w reading (BadLine line place) = reading ≡ Err (text.BadLine line place)
IsCauseIn t f g w reading (Address line fault) = reading ≡ Err (text.Address line fault)
IsCauseIn t f g w reading (BadKind line) = reading ≡ Err (text.BadKind line)
IsCauseIn t f g w reading (NotOfFrame line) = (i : ℕ) × (line ≡ i + 1) × HasNotOfFrame t f reading i
IsCauseIn t f g w reading (Double line) = (i : ℕ) × (line ≡ i + 1) × HasDouble t f reading i
IsCauseIn t f g w reading (Stray line) = (i : ℕ) × (line ≡ i + 1) × HasStrayLine t f w reading i
IsCauseIn t f g w reading NoMemory = Unit {0}
IsCauseIn t f g w reading fault = EndsWalking t f g w reading fault

-- the same for what a text is read as
abbrev pub HasCause : Tiling → FrameValue → FrameValue → Window → List ℕ → ListFault → Type 0
HasCause t f g w listing fault = IsCauseIn t f g w (listing_in (children t) listing) fault

-- the fault is one by which the walk ends: of these several may have a cause, and one of them comes
abbrev pub IsOfWalk : ListFault → Type 0
IsOfWalk (Missing addr) = Unit {0}
IsOfWalk (WrongPlace line motion) = Unit {0}
IsOfWalk (DepthLimit addr edge) = Unit {0}
IsOfWalk (CoordLimit value) = Unit {0}
IsOfWalk _ = ⊥

-- the fault comes whenever it has a cause
abbrev pub IsTold : ListFault → Type 0
IsTold (Missing addr) = ⊥
IsTold (WrongPlace line motion) = ⊥
IsTold (DepthLimit addr edge) = ⊥
IsTold (CoordLimit value) = ⊥
IsTold NoMemory = ⊥
IsTold _ = Unit {0}

-- The entries are apart. A value on the way to the centre is refused, or not each tile that meets the window
-- has its entry, with its motion and no refused shift.
pub record LacksEntries (t : Tiling) (f : FrameValue) (w : Window) (reading : Reading) : Type 0 where
  pub entries : List Entry
  pub lines : AreApart t f reading entries
  pub lacking : first_refused_at t f w ≡ None → ¬ HasAllTiles t f w (length f.digits) entries

abbrev pub LacksTiles : Tiling → FrameValue → Window → List ℕ → Type 0
LacksTiles t f w listing = LacksEntries t f w (listing_in (children t) listing)

-- What is answered of a reading, in a frame that was f and is g: it is right, or a fault has its cause. The
-- frame is as deep as the entries, and no deeper than is enough.
pub record IsVerdictOn (t : Tiling) (f g : FrameValue) (w : Window) (reading : Reading)
    (answer : Result ℕ ListFault) : Type 0 where
  pub frame : GrowsTo t f g
  pub depth : OnOk answer (IsDepthRead t f reading (length g.digits))
  pub not_beyond : (n : ℕ) → IsEnoughRead t f w reading n → length g.digits ≤ n
  pub right : IfOk answer (λ n. IsRightReading t f w reading n)
  pub cause : IfErr answer (λ fault. IsCauseIn t f g w reading fault)

-- It is answered whenever it is so, unless memory runs out. Of the faults of the walk one comes.
pub record IsWholeVerdict (t : Tiling) (f g : FrameValue) (w : Window) (reading : Reading)
    (answer : Result ℕ ListFault) : Type 0 where
  pub verdict : IsVerdictOn t f g w reading answer
  pub complete : (n : ℕ) → IsRightReading t f w reading n → (answer ≡ Ok n) ⊎ (answer ≡ Err NoMemory)
  pub told : (fault : ListFault) → IsTold fault → IsCauseIn t f g w reading fault
      → (answer ≡ Err fault) ⊎ (answer ≡ Err NoMemory)
  pub lacking : LacksEntries t f w reading
      → (answer ≡ Err NoMemory) ⊎ (fault : ListFault) × (answer ≡ Err fault) × IsOfWalk fault

-- What is answered of a text. With a fault of the text the frame stays. Too many lines are a fault in any
-- case.
pub record IsVerdict (t : Tiling) (f g : FrameValue) (w : Window) (listing : List ℕ)
    (answer : Result ℕ ListFault) : Type 0 where
  pub on : IsVerdictOn t f g w (listing_in (children t) listing) answer
  pub unread : (fault : ListingFault) → listing_in (children t) listing ≡ Err fault → g ≡ f
  pub too_long : (answer ≡ Err TooLong) ↔ (most_lines < length (lines_in listing))
