use Rattle.cyclo_points.specs.declared.point.Point.{Point}
use Rattle.plane_geom.specs.Spots.{spot_of}
use Rattle.window_descent.specs.Bounds.{IsEnclosed}
use Rattle.window_descent.proofs.PartBounds.{all-more}
use Rattle.window_descent.proofs.bounds.Bounds.of.Goals as goal

pub loop-point-preserved : goal.loop-point-preserved
loop-point-preserved c =
    let o = c.args.order in
    all-more (λ (p : Point). IsEnclosed o c.loop-point.bounds (spot_of o p)) (λ (p : Point). IsEnclosed o c.with-bounds.result (spot_of o p))
    (λ p h. c.with-bounds.ensures.own o (spot_of o p) h) c.args.points.now c.loop-point.point-index _ c.loop-point-test.true
    c.loop-point.invariant (c.with-bounds.ensures.other o _ c.in_ok-at.ensures)
