-- The laws on which the steps of the search rest.
use Rattle.theory_substitution.specs.Points.{Points, PointLaws}
use Rattle.theory_windows.specs.FrameCover.{FrameStartLaw, FrameStepLaw, FrameStopLaw, FrameGoesOnLaw}
use Rattle.theory_windows.specs.FrameLaws.{FramePatchLaw, LiftLaw, NamedLaw, LinesLaw, NumberedLaw}
use Rattle.theory_windows.specs.FrameSearch.{RenamedLaw, AtDepthLaw, GluedCrossingLaw, GrownCrossingLaw, HolderLevelLaw}
use Rattle.theory_windows.specs.FrameWindow.{LeastLaw}
use Rattle.theory_windows.specs.Laws.{OpenTestLaw, OpenNumberLaw, OpenStepLaw}

-- of points, of dissected frames and the names of their tiles, of edges, of crossings, and of the search
pub record HasSearchLaws (P : Points) : Type 0 where
  pub points : PointLaws P
  pub patch : FramePatchLaw P
  pub lifted : LiftLaw P
  pub named : NamedLaw P
  pub renamed : RenamedLaw P
  pub at_depth : AtDepthLaw P
  pub lines : LinesLaw P
  pub numbered : NumberedLaw P
  pub grown : GrownCrossingLaw P
  pub glued : GluedCrossingLaw P
  pub open_test : OpenTestLaw P
  pub open_numbers : OpenNumberLaw P
  pub open_step : OpenStepLaw P
  pub levels : HolderLevelLaw P
  pub least : LeastLaw P
  pub start : FrameStartLaw P
  pub step : FrameStepLaw P
  pub stop : FrameStopLaw P
  pub onward : FrameGoesOnLaw P
