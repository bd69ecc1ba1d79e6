-- The laws of the tiles around a vertex, over the points of P. Tiles are named by address and motion.
use Rattle.theory_substitution.specs.Points.{Points}
use Rattle.theory_substitution.specs.Supertile.{Placed}
use Rattle.theory_stars.specs.Round.{TurnTheorem}
use Rattle.theory_stars.specs.GrownStar.{StarAnswers, StarGoesOn, StarEnds, StarIsWhole, DepthCause, CountCause}

abbrev pub TurnLaw : Points → Type 0
TurnLaw P = TurnTheorem P.real (Placed P.ring.carrier)

abbrev pub AnswerLaw : Points → Type 0
AnswerLaw P = StarAnswers P.real (Placed P.ring.carrier)

abbrev pub OnwardLaw : Points → Type 0
OnwardLaw P = StarGoesOn P.real (Placed P.ring.carrier)

abbrev pub EndLaw : Points → Type 0
EndLaw P = StarEnds P.real (Placed P.ring.carrier)

abbrev pub WholeStarLaw : Points → Type 0
WholeStarLaw P = StarIsWhole P.real (Placed P.ring.carrier)

abbrev pub DepthLaw : Points → Type 0
DepthLaw P = DepthCause P.real (Placed P.ring.carrier)

abbrev pub CountLaw : Points → Type 0
CountLaw P = CountCause P.real (Placed P.ring.carrier)
