-- The laws on which the turn rests.
use Rattle.theory_substitution.specs.Points.{Points, PointLaws}
use Rattle.theory_windows.specs.FrameLaws.{LinesLaw}
use Rattle.theory_windows.specs.FrameSearch.{RenamedLaw, GluedCrossingLaw, LastBoundaryLaw}
use Rattle.theory_stars.specs.FrameStar.{SimpleFrameLaw, FrameNextLaw, FrameStarLaw, FrameCornersLaw, FrameBaseLaw, FrameBackLaw, TurnStopLaw}
use Rattle.theory_stars.specs.Laws.{AnswerLaw, OnwardLaw, WholeStarLaw, CountLaw}
use Rattle.theory_stars.specs.OnPolygon.{FrameOffLaw, FrameLeastLaw}

-- of points; of names, edges and gluing in frames; and of the turn
pub record HasStarLaws (P : Points) : Type 0 where
  pub points : PointLaws P
  pub renamed : RenamedLaw P
  pub lines : LinesLaw P
  pub glued : GluedCrossingLaw P
  pub last : LastBoundaryLaw P
  pub simple : SimpleFrameLaw P
  pub next : FrameNextLaw P
  pub star : FrameStarLaw P
  pub corners : FrameCornersLaw P
  pub base : FrameBaseLaw P
  pub back : FrameBackLaw P
  pub stop : TurnStopLaw P
  pub answers : AnswerLaw P
  pub onward : OnwardLaw P
  pub whole : WholeStarLaw P
  pub count : CountLaw P
  pub off : FrameOffLaw P
  pub least : FrameLeastLaw P
