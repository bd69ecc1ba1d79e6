-- The laws on which the walk rests.
use Rattle.std.specs.Prelude.{◌≡◌, ℕ}
use Rattle.theory_addresses.specs.Address.{Address, Fits}
use Rattle.theory_addresses.specs.Tables.{child_kinds}
use Rattle.cyclo_points.specs.Order.{points_of}
use Rattle.theory_frames.specs.Growth.{grown_by}
use Rattle.rule_model.specs.declared.rule.Rule.{Rule}
use Rattle.rule_model.specs.Accepted.{IsAccepted}
use Rattle.rule_model.specs.Tiling.{tiling_of, contacts, children}
use Rattle.rule_model.specs.Usable.{IsUsable}
use Rattle.seeded_growth.specs.Words.{word}
use Rattle.tile_shape.specs.UsesInOrder.{uses_in_order}
use Rattle.theory_substitution.specs.Points.{Points}
use Rattle.theory_windows.specs.FrameSearch.{LastBoundaryLaw}
use Rattle.theory_listings.specs.FrameWalk.{FrameWalkStartLaw, FrameWalkStepLaw, FrameWalkRoomLaw, FrameWalkEndLaw, FrameBeyondLaw, FrameWalkStopLaw, FrameNoFaultLaw}
use Rattle.theory_listings.specs.FrameWalk.{FrameRightLaw, FrameNoListFaultLaw}
use Rattle.theory_listings.specs.FrameLifted.{LiftedListingLaw}
use Rattle.window_cover.specs.SearchLaws.{HasSearchLaws}

-- of frames and of the search; of boundaries; of the walk; and of right listings
pub record HasListLaws (P : Points) : Type 0 where
  pub search : HasSearchLaws P
  pub last : LastBoundaryLaw P
  pub start : FrameWalkStartLaw P
  pub step : FrameWalkStepLaw P
  pub room : FrameWalkRoomLaw P
  pub end : FrameWalkEndLaw P
  pub beyond : FrameBeyondLaw P
  pub stop : FrameWalkStopLaw P
  pub no_fault : FrameNoFaultLaw P
  pub right : FrameRightLaw P
  pub no_list_fault : FrameNoListFaultLaw P
  pub lifted : LiftedListingLaw P

-- what a machine's rule brings: it is accepted and its numbers exist; its contact tables have its child
-- kinds; with grown digits addresses still fit; and the laws over its points
pub record HasWalkLaws (m : Rule) : Type 0 where
  pub accepted : IsAccepted m
  pub usable : IsUsable m
  pub same_child_kinds : child_kinds (contacts (tiling_of m)) ≡ children (tiling_of m)
  pub still_fits : (base : Address) (start n : ℕ) → Fits (children (tiling_of m)) base
      → Fits (children (tiling_of m)) (grown_by (uses_in_order (children (tiling_of m))) (word start) n base)
  pub laws : HasListLaws (points_of m.order)
