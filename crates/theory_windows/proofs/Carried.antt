-- The laws of windows, proved over the points of an order.
use Rattle.theory_ring.specs.Divisor.{DividesWhole}
use Rattle.theory_substitution.specs.Points.{Points, PointLaws}
use Rattle.theory_windows.specs.Laws as is
use Rattle.theory_windows.proofs.ClosedChains as chains
use Rattle.theory_windows.proofs.Meeting as meeting
use Rattle.theory_windows.proofs.CutEdges as cuts
use Rattle.theory_windows.proofs.Gluing as glue
use Rattle.theory_windows.proofs.WholeTiles as wholes
use Rattle.theory_windows.proofs.Window as window
use Rattle.theory_windows.proofs.OneOwner as owner
use Rattle.theory_windows.proofs.GrownPolygon as polygon
use Rattle.theory_windows.proofs.EnoughDepth as enough
use Rattle.theory_windows.proofs.Steps as steps
use Rattle.theory_windows.proofs.Finish as finish
use Rattle.theory_windows.proofs.EveryEdge as every
use Rattle.theory_windows.proofs.Limits as limits
use Rattle.theory_windows.proofs.OpenNumbers as numbers
use Rattle.theory_windows.proofs.OpenStep as open_step
use Rattle.theory_windows.proofs.OpenTest as open_test
use Rattle.theory_windows.proofs.FromLevel as from_level
use Rattle.theory_windows.proofs.AnyOrder as order
use Rattle.theory_windows.proofs.WholeSearch as whole_search

module _ (P : Points) (W : PointLaws P) where
  pub triangle_law : is.TriangleMeetsLaw P
  triangle_law = meeting.triangle_meets P.real W.of_real W.of_order

  pub polygon_law : is.PolygonMeetsLaw P
  polygon_law = meeting.polygon_meets P.real W.of_real W.of_order

  pub cut_law : is.CutLaw P
  cut_law = cuts.cut_meets P.real W.of_real W.of_order

  pub cuts_law : is.CutsLaw P
  cuts_law = cuts.cuts_meet P.real W.of_real W.of_order

  pub rotation_law : is.RotationLaw P
  rotation_law = glue.rotation P.real

  pub gluing_law : is.OutlineGluingLaw P
  gluing_law = glue.gluing P.real W.of_real W.of_order

  pub wholes_law : is.WholesLaw P
  wholes_law = wholes.wholes_cover P.real

  pub outline_law : is.OutlineLaw P
  outline_law = window.known_by_outline

  pub owner_law : is.OwnerLaw P
  owner_law = owner.one_owner P.real W.of_real W.of_order

  pub enough_law : is.EnoughLaw P
  enough_law = polygon.enough_by_polygon P.real W.of_real W.of_order

  pub one_across_law : is.OneAcrossLaw P
  one_across_law = from_level.one_across P.real W.of_real W.of_order

  pub inner_from_level_law : is.InnerFromLevelLaw P
  inner_from_level_law = from_level.inner_from_level P.real W.of_real W.of_order

  pub held_from_level_law : is.HeldFromLevelLaw P
  held_from_level_law = from_level.held_from_level

  pub drawn_same_law : is.DrawnSameLaw P
  drawn_same_law = order.drawn_same

  pub drawn_order_law : is.DrawnOrderLaw P
  drawn_order_law = order.drawn_any_order

  pub covers_order_law : is.CoversOrderLaw P
  covers_order_law = order.covers_any_order

  module _ (divides : DividesWhole P.real) where
    pub closed_chain_law : is.ClosedChainLaw P
    closed_chain_law = chains.closed_chain P.real W.of_real W.of_order divides

    pub closed_chains_law : is.ClosedChainsLaw P
    closed_chains_law = chains.closed_chains P.real W.of_real W.of_order divides

    pub window_law : is.WindowLaw P
    window_law = window.window_theorem P.real W.of_real W.of_order divides

    pub start_law : is.StartLaw P
    start_law = steps.start_right P.real W.of_real W.of_order divides

    pub step_law : is.StepLaw P
    step_law = steps.step_right P.real W.of_real W.of_order divides

    pub finish_law : is.FinishLaw P
    finish_law = finish.finish_right P.real W.of_real W.of_order divides

    pub open_test_law : is.OpenTestLaw P
    open_test_law = open_test.open_tested P.real W.of_real W.of_order divides

    pub open_number_law : is.OpenNumberLaw P
    open_number_law = numbers.open_numbers P.real W.of_real W.of_order divides

    pub open_step_law : is.OpenStepLaw P
    open_step_law = open_step.open_step P.real W.of_real W.of_order divides

    pub found_or_open_law : is.FoundOrOpenLaw P
    found_or_open_law = every.found_or_open P.real W.of_real W.of_order divides

    pub none_open_law : is.NoneOpenLaw P
    none_open_law = every.none_open P.real W.of_real W.of_order divides

    pub search_answers_law : is.SearchAnswersLaw P
    search_answers_law = whole_search.search_answers P.real W.of_real W.of_order divides

    pub search_ends_law : is.SearchEndsLaw P
    search_ends_law = whole_search.search_ends P.real W.of_real W.of_order divides

    pub depth_refusal_law : is.DepthRefusalLaw P
    depth_refusal_law = limits.depth_refusal P.real W.of_real W.of_order divides

    pub all_drawn_law : is.AllDrawnLaw P
    all_drawn_law = enough.all_drawn P.real W.of_real W.of_order divides

    pub count_refusal_law : is.CountRefusalLaw P
    count_refusal_law = limits.count_refusal P.real W.of_real W.of_order divides

    pub goes_on_law : is.GoesOnLaw P
    goes_on_law = limits.goes_on P.real W.of_real W.of_order divides

    pub ends_within_law : is.EndsWithinLaw P
    ends_within_law = limits.ends_within P.real W.of_real W.of_order divides
