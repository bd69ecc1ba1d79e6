-- The law of the walk through a listing, over the points of P. Tiles are named by address and motion.
use Rattle.theory_substitution.specs.Points.{Points}
use Rattle.theory_substitution.specs.Motion.{Motion}
use Rattle.theory_substitution.specs.Supertile.{Placed}
use Rattle.theory_listings.specs.Theorem.{WalkTheorem}

abbrev pub WalkLaw : Points → Type 0
WalkLaw P = WalkTheorem P.real (Placed P.ring.carrier) (Motion P.ring.carrier)
