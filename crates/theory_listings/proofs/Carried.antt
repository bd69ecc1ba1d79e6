-- The laws of listings, proved over the points of an order.
use Rattle.std.specs.Prelude.{false}
use Rattle.theory_ring.specs.Divisor.{DividesWhole}
use Rattle.theory_substitution.specs.Points.{Points, PointLaws}
use Rattle.theory_dissection.specs.Accepted.{AcceptedRule}
use Rattle.theory_dissection.proofs.Setting.{Setting}
use Rattle.theory_listings.specs.Laws as is
use Rattle.theory_listings.specs.FrameWalk as is_frame
use Rattle.theory_listings.specs.FrameLifted.{LiftedListingLaw}
use Rattle.theory_listings.proofs.Walk.{walk_theorem}
use Rattle.theory_listings.proofs.FrameWalk as frame
use Rattle.theory_listings.proofs.FrameLifted.{say-the-same}

module _ (P : Points) (W : PointLaws P) (whole : DividesWhole P.real) where
  abbrev setting : AcceptedRule P → Setting
  setting T = record { points = P; laws = W; accepted = T }

  pub walk_law : is.WalkLaw P
  walk_law = walk_theorem P.real W.of_real W.of_order whole

  pub start_law : is_frame.FrameWalkStartLaw P
  start_law T f refused box m listing on = frame.walk-start (setting T) whole f refused box on.window m listing on

  pub step_law : is_frame.FrameWalkStepLaw P
  step_law T f refused box m listing on found a e h u across = frame.walk-step (setting T) whole f refused box
      on.window m listing on found a e h u across

  pub room_law : is_frame.FrameWalkRoomLaw P
  room_law T f refused box m listing on found w u new = frame.walk-room (setting T) whole f refused box
      on.window m listing on found w u (λ i. absurd (new i))

  pub beyond_law : is_frame.FrameBeyondLaw P
  beyond_law T f box m listing on u beyond i = absurd (frame.walk-beyond (setting T) whole f (λ z. false) box on.window m listing on u beyond i)

  pub stop_law : is_frame.FrameWalkStopLaw P
  stop_law T f refused box m listing on found a e h none = frame.walk-stop (setting T) whole f refused box
      on.window m listing on found a e h (λ u x. absurd (none u x))

  pub end_law : is_frame.FrameWalkEndLaw P
  end_law T f refused box m listing on found w crossed = frame.walk-end (setting T) whole f refused box on.window m listing on found w crossed

  pub no_fault_law : is_frame.FrameNoFaultLaw P
  no_fault_law T f refused box m listing on h a c = absurd (frame.walk-no_fault (setting T) whole f refused box on.window m listing on h a c)

  pub right_law : is_frame.FrameRightLaw P
  right_law T f refused box window m listing h = frame.right-in_frame (setting T) whole f refused box window m listing h

  pub no_list_fault_law : is_frame.FrameNoListFaultLaw P
  no_list_fault_law T f refused box window m listing h = frame.right-no_fault (setting T) whole f refused box window m listing h

  pub lifted_law : LiftedListingLaw P
  lifted_law T f fits refused box m listing start of_frame = say-the-same (setting T) f fits refused box m listing start of_frame
