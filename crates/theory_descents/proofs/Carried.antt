-- The laws of the descent, proved over the points of an order.
use Rattle.theory_ring.specs.Divisor.{DividesWhole}
use Rattle.theory_substitution.specs.Points.{Points, PointLaws}
use Rattle.theory_dissection.specs.Accepted.{AcceptedRule}
use Rattle.theory_dissection.proofs.Setting.{Setting}
use Rattle.theory_descents.specs.Laws as is
use Rattle.theory_descents.proofs.Insets as insets
use Rattle.theory_descents.proofs.MeetingTest as test
use Rattle.theory_descents.proofs.Descent as descent
use Rattle.theory_descents.proofs.Climb as climb

module _ (P : Points) (W : PointLaws P) where
  abbrev setting : AcceptedRule P → Setting
  setting T = record { points = P; laws = W; accepted = T }

  pub beyond_law : is.BeyondLaw P
  beyond_law = insets.beyond_meets_not P.real W.of_real W.of_order

  pub inside_law : is.InsideLaw P
  inside_law = insets.within_in P.real W.of_real W.of_order

  module _ (divides : DividesWhole P.real) where
    pub test_law : is.TestLaw P
    test_law = test.meets_by_test P.real W.of_real W.of_order divides

    pub point_law : is.PointLaw P
    point_law = test.has_point P.real W.of_real W.of_order divides

    pub pruned_law : is.PrunedLaw P
    pruned_law T box wide high k n m hk turn = descent.pruned_law (setting T) divides box wide high k n m hk turn

    pub taken_law : is.TakenLaw P
    taken_law T box wide high k n m hk turn = descent.taken_law (setting T) divides box wide high k n m hk turn

    pub parts_law : is.PartsLaw P
    parts_law T box k n m = descent.parts_law (setting T) divides box k n m

    pub descent_law : is.DescentLaw P
    descent_law T box wide high tests right k n m hk turn = descent.descent_law (setting T) divides box wide high tests right k n m hk turn

    pub below_law : is.FrameBelowLaw P
    below_law T f fits n within = descent.frame-below (setting T) divides f fits n within

    pub drawn_law : is.FrameDescentLaw P
    drawn_law T f fits n within box wide high = descent.frame-drawn (setting T) divides f fits n within box wide high

    pub holds_law : is.HoldsLaw P
    holds_law = climb.holds_by_test P.real W.of_real W.of_order divides

    pub climb_law : is.ClimbLaw P
    climb_law T f box m n h = climb.climb_law (setting T) divides f box m n h

    pub covers_law : is.FrameCoversLaw P
    covers_law T f fits n within box wide high h = climb.covers_law (setting T) divides f fits n within box wide high h
