-- A listing has one verdict: each excludes the others.
use Rattle.std.specs.Prelude.{◌≡◌, ◌⊎◌, ℕ, List}
use Rattle.cyclo_points.specs.declared.order.Order.{Order}
use Rattle.cyclo_points.specs.Order.{points_of}
use Rattle.theory_dissection.specs.Accepted.{AcceptedRule}
use Rattle.plane_geom.specs.declared.window.Window.{Window}
use Rattle.rule_model.specs.Tiling.{Tiling, children}
use Rattle.theory_walks.specs.Frames.{FrameValue, IsFrameOf}
use Rattle.listing_text.specs.Listing.{listing_in}
use Rattle.window_cover.specs.Windows.{IsWindow}
use Rattle.list_verify.specs.declared.list_fault.ListFault.{ListFault}
use Rattle.list_verify.specs.declared.list_fault.ListFault.TheVariants.{NoMemory}
use Rattle.list_verify.specs.Listing.{Reading, IsRightReading}
use Rattle.list_verify.specs.Verdict.{IsCauseIn, IsTold, IsOfWalk, LacksEntries}

-- A right listing has one number of lines, and no fault. Two faults that have a cause, each in the frame as
-- it had grown then, are the same, or both are of the walk. A listing that lacks tiles is not right, and has
-- no fault that comes whenever it has a cause.
pub record HasOneVerdictOn (t : Tiling) (f : FrameValue) (w : Window) (reading : Reading) : Type 0 where
  pub one_count : (n m : ℕ) → IsRightReading t f w reading n → IsRightReading t f w reading m → n ≡ m
  pub right_or_not : (n : ℕ) (g : FrameValue) (fault : ListFault) → IsRightReading t f w reading n
      → IsCauseIn t f g w reading fault → fault ≡ NoMemory
  pub one_fault : (g h : FrameValue) (one other : ListFault) → IsCauseIn t f g w reading one
      → IsCauseIn t f h w reading other
      → (one ≡ other) ⊎ ((one ≡ NoMemory) ⊎ ((other ≡ NoMemory) ⊎ (IsOfWalk one × IsOfWalk other)))
  pub lacks_or_right : (n : ℕ) → LacksEntries t f w reading → IsRightReading t f w reading n → ⊥
  pub lacks_or_told : (g : FrameValue) (fault : ListFault) → LacksEntries t f w reading
      → IsCauseIn t f g w reading fault → IsTold fault → ⊥

-- the same of what a text is read as
abbrev pub HasOneVerdict : Tiling → FrameValue → Window → List ℕ → Type 0
HasOneVerdict t f w listing = HasOneVerdictOn t f w (listing_in (children t) listing)

-- the tiling of an accepted rule over the points of an order
abbrev pub tiling_accepted : (o : Order) → AcceptedRule (points_of o) → Tiling
tiling_accepted o T = record { order = o; rule = T.rule }

-- this holds of every listing, whatever is read of it, of a window on a frame of an accepted rule
abbrev pub OneVerdictLaw : Order → Type 0
OneVerdictLaw o =
    (T : AcceptedRule (points_of o)) (f : FrameValue) (w : Window) (reading : Reading)
    → IsFrameOf (tiling_accepted o T) f → IsWindow w
    → HasOneVerdictOn (tiling_accepted o T) f w reading
