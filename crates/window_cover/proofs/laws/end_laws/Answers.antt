use Rattle.cyclo_points.specs.Order.{PointsLaw, points_of}
use Rattle.theory_windows.specs.FrameCover.{FrameFinishLaw}
use Rattle.theory_windows.specs.FrameLaws.{FramePatchLaw}
use Rattle.theory_windows.specs.Laws.{OpenTestLaw, OutlineLaw}
use Rattle.tile_place.proofs.EachOrder.{each-order}
use Rattle.window_cover.proofs.laws.end_laws.Goals as goal

pub returns-clause-points : goal.returns-clause-points
returns-clause-points c = each-order PointsLaw c.end_laws_of.ensures.points c.end_laws_of-2.ensures.points
    c.end_laws_of-3.ensures.points c.end_laws_of-4.ensures.points

pub returns-clause-patch : goal.returns-clause-patch
returns-clause-patch c = each-order (λ o. FramePatchLaw (points_of o)) c.end_laws_of.ensures.patch
    c.end_laws_of-2.ensures.patch c.end_laws_of-3.ensures.patch c.end_laws_of-4.ensures.patch

pub returns-clause-known : goal.returns-clause-known
returns-clause-known c = each-order (λ o. OutlineLaw (points_of o)) c.end_laws_of.ensures.known
    c.end_laws_of-2.ensures.known c.end_laws_of-3.ensures.known c.end_laws_of-4.ensures.known

pub returns-clause-open_test : goal.returns-clause-open_test
returns-clause-open_test c = each-order (λ o. OpenTestLaw (points_of o)) c.end_laws_of.ensures.open_test
    c.end_laws_of-2.ensures.open_test c.end_laws_of-3.ensures.open_test c.end_laws_of-4.ensures.open_test

pub returns-clause-finish : goal.returns-clause-finish
returns-clause-finish c = each-order (λ o. FrameFinishLaw (points_of o)) c.end_laws_of.ensures.finish
    c.end_laws_of-2.ensures.finish c.end_laws_of-3.ensures.finish c.end_laws_of-4.ensures.finish
