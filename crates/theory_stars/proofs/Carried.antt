-- The laws of the tiles round a vertex, proved over the points of an order.
use Rattle.std.proofs.Common.{false}
use Rattle.theory_ring.specs.Divisor.{DividesWhole}
use Rattle.theory_substitution.specs.Points.{Points, PointLaws}
use Rattle.theory_stars.specs.Laws as is
use Rattle.theory_stars.specs.FrameStar as is_frame
use Rattle.theory_stars.proofs.WholeTurn as turn
use Rattle.theory_stars.proofs.GrownStar as star
use Rattle.theory_stars.proofs.SimpleFrame as frame
use Rattle.theory_stars.specs.OnPolygon as is_polygon
use Rattle.theory_stars.proofs.FrameStar as in_frame
use Rattle.theory_stars.proofs.PolygonEdges as polygon
use Rattle.theory_stars.proofs.FrameBase as base

module _ (P : Points) (W : PointLaws P) where
  pub onward_law : is.OnwardLaw P
  onward_law = star.star_goes_on P.real W.of_real W.of_order

  pub end_law : is.EndLaw P
  end_law = star.star_ends P.real W.of_real W.of_order

  pub depth_law : is.DepthLaw P
  depth_law = star.depth_cause P.real W.of_real W.of_order

  pub count_law : is.CountLaw P
  count_law = star.count_cause P.real W.of_real W.of_order

  pub simple_frame_law : is_frame.SimpleFrameLaw P
  simple_frame_law T f fits = frame.simply_dissected (record { points = P; laws = W; accepted = T }) f fits

  pub frame_next_law : is_frame.FrameNextLaw P
  frame_next_law T f m n a i b g c = in_frame.frame-next (record { points = P; laws = W; accepted = T }) f c.frame (λ z. false) m n a i b g c

  pub frame_star_law : is_frame.FrameStarLaw P
  frame_star_law T f fits refused v m n within base others deep star turn = in_frame.frame-star
      (record { points = P; laws = W; accepted = T }) f fits refused n within v m base others deep star turn

  pub frame_corners_law : is_frame.FrameCornersLaw P
  frame_corners_law T f fits refused v n within corners distinct each = in_frame.frame-corners
      (record { points = P; laws = W; accepted = T }) f fits refused n within v corners distinct each

  pub frame_base_law : is_frame.FrameBaseLaw P
  frame_base_law T f fits refused n within i h = base.frame-base (record { points = P; laws = W; accepted = T }) f fits n within refused i h

  pub frame_back_law : is_frame.FrameBackLaw P
  frame_back_law T f fits v m n wm wn b g i deep hb hm = base.frame-back
      (record { points = P; laws = W; accepted = T }) f fits v m n wm wn b g i deep hb hm

  pub frame_stop_law : is_frame.TurnStopLaw P
  frame_stop_law T f refused v a i h at own part on enough = absurd
      (base.frame-stop (record { points = P; laws = W; accepted = T }) f h.frame refused v a i h at own part
      on enough)

  pub frame_off_law : is_polygon.FrameOffLaw P
  frame_off_law T f fits refused v n within = polygon.frame-off (record { points = P; laws = W; accepted = T }) f fits refused v n within

  pub frame_least_law : is_polygon.FrameLeastLaw P
  frame_least_law T f fits refused v m n within h = polygon.frame-least (record { points = P; laws = W; accepted = T }) f fits refused v m n within h

  module _ (whole : DividesWhole P.real) where
    pub turn_law : is.TurnLaw P
    turn_law = turn.turn_theorem P.real W.of_real W.of_order whole

    pub answer_law : is.AnswerLaw P
    answer_law = star.star_answers P.real W.of_real W.of_order whole

    pub whole_law : is.WholeStarLaw P
    whole_law = star.star_is_whole P.real W.of_real W.of_order whole
