use Rattle.window_descent.proofs.EdgeTests.{vertex-meets}
use Rattle.window_descent.proofs.meeting.some_vertex_inside.Goals as goal

pub returns-then-is_inside : goal.returns-then-is_inside
returns-then-is_inside c = λ _.
    vertex-meets c.args.order c.args.window.now c.args.corners.now c.loop-corner.corner-index _ c.loop-corner-test.true
    (c.is_inside.ensures c.if-is_inside.true)
