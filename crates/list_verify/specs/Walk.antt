-- A walk through the lines of a listing: how it begins, what holds on its way, and how it ends.
use Rattle.std.specs.Prelude.{◌≡◌, ◌⊎◌, ℕ, ◌*◌, ◌<◌, ◌≤◌, ◌^◌, true, List, [], length, slice_get, None, Some, Result, IfErr, OnOk}
use Rattle.theory_addresses.specs.Search.{IsAmong}
use Rattle.rule_model.specs.Tiling.{Tiling, tiling_of}
use Rattle.theory_walks.specs.Frames.{FrameValue, GrowsTo}
use Rattle.listing_text.specs.Listing.{Entry}
use Rattle.window_cover.specs.Windows.{IsWindow, IsLeastForWindow}
use Rattle.list_verify.specs.declared.found_lines.FoundLines.{FoundLines}
use Rattle.list_verify.specs.declared.list_fault.ListFault.{ListFault}
use Rattle.list_verify.specs.declared.walk.Walk.{Walk}
use Rattle.list_verify.specs.Faults.{OrNoRoom}
use Rattle.list_verify.specs.FoundLines.{entries_of, AreLinesIn, AreFound, AreMarkedSides, HasMoreLines}
use Rattle.list_verify.specs.LineIndex.{Indexes}
use Rattle.list_verify.specs.Walked.{first_refused_at, Tells, IsStoppedBy, AreRightLines, IsStrayFault}

-- the tiling of a walk, and its lines as entries
abbrev pub tiling_in : Walk → Tiling
tiling_in walk = tiling_of walk.machine.now

abbrev pub entries_in : Walk → List Entry
entries_in walk = entries_of walk.lines.now

-- the lines are of the frame, each lifted to its depth, and the index finds each by its address
pub record IsOnFrame (walk : Walk) (f : FrameValue) : Type 0 where
  pub lines : AreLinesIn (tiling_in walk) f walk.lines.now
  pub index : Indexes walk.index.now walk.lines.now (length walk.lines.now)
  pub few : length walk.lines.now < 2 ^ 31
  pub window_fits : IsWindow walk.window.now

-- of n lines none is found, and no edge is crossed
pub record HasNone (n : ℕ) (found : FoundLines) : Type 0 where
  pub none : found.lines.items ≡ []
  pub count : length found.marks.items ≡ n
  pub unmarked : (i : ℕ) → ¬ (slice_get found.marks.items i ≡ Some true)
  pub sides : length found.crossed.marks.items ≡ n * 12
  pub none_crossed : (i : ℕ) → ¬ (slice_get found.crossed.marks.items i ≡ Some true)

-- the walk is under way: it has come to the tiles of the lines found, and beyond each edge that is marked
pub record IsUnderWay (walk : Walk) (f : FrameValue) (found : FoundLines) : Type 0 where
  pub on_frame : IsOnFrame walk f
  pub lines_found : AreFound (tiling_in walk) f walk.window.now walk.lines.now found.lines.items
      found.marks.items
  pub sides : AreMarkedSides (tiling_in walk) f walk.window.now walk.lines.now found.lines.items
      found.crossed.marks.items

-- the walk begins: none of its lines is found yet
pub record IsAtStart (walk : Walk) (f : FrameValue) (found : FoundLines) : Type 0 where
  pub on_frame : IsOnFrame walk f
  pub none : HasNone (length walk.lines.now) found

-- the walk is under way, and line number i is found
pub record IsAtLine (walk : Walk) (f : FrameValue) (found : FoundLines) (i : ℕ) : Type 0 where
  pub under_way : IsUnderWay walk f found
  pub line_found : IsAmong i found.lines.items

-- it goes on: the frame stays, and so do the lines found, perhaps with more
pub record WalkGoesOn (walk : Walk) (f g : FrameValue) (old new : FoundLines) : Type 0 where
  pub stays : g ≡ f
  pub more : HasMoreLines old.lines.items new.lines.items
  pub under_way : IsUnderWay walk f new

-- it stops with a fault: memory ran out, or the fault has its cause in the frame as it has grown
pub record Stops (walk : Walk) (f g : FrameValue) (fault : ListFault) : Type 0 where
  pub grows : GrowsTo (tiling_in walk) f g
  pub not_beyond : (n : ℕ) → IsLeastForWindow (tiling_in walk) f walk.window.now n → length g.digits ≤ n
  pub cause : OrNoRoom (IsStoppedBy (tiling_in walk) f g walk.window.now (entries_in walk)) fault

-- it goes on, or it stops with a fault
pub record GoesOnOrStops {A : Type 0} (walk : Walk) (f g : FrameValue) (old new : FoundLines)
    (result : Result A ListFault) : Type 0 where
  pub goes_on : OnOk result (WalkGoesOn walk f g old new)
  pub fault : IfErr result (Stops walk f g)

-- it has come to its end, and the lines that it has found are marked
pub record HasEnded (walk : Walk) (f g : FrameValue) (found : FoundLines) : Type 0 where
  pub stays : g ≡ f
  pub centre_found : first_refused_at (tiling_in walk) f walk.window.now ≡ None
  pub count : length found.marks.items ≡ length walk.lines.now
  pub tells : Tells (tiling_in walk) f walk.window.now (entries_in walk) found.marks.items

-- its lines are right
pub record IsRightListing (walk : Walk) (f g : FrameValue) : Type 0 where
  pub stays : g ≡ f
  pub right : AreRightLines (tiling_in walk) f walk.window.now (entries_in walk)

-- the fault names its first stray line
pub record FindsStray (walk : Walk) (f g : FrameValue) (fault : ListFault) : Type 0 where
  pub stays : g ≡ f
  pub stray : IsStrayFault (tiling_in walk) f walk.window.now (entries_in walk) fault

-- its lines aren't right: it stops, or one of them is stray
abbrev pub IsNotRight : Walk → FrameValue → FrameValue → ListFault → Type 0
IsNotRight walk f g fault = Stops walk f g fault ⊎ FindsStray walk f g fault
