use Rattle.window_descent.proofs.EdgeTests.{edge_test-is}
use Rattle.window_descent.proofs.meeting.edge_meets.Goals as goal

pub returns : goal.returns
returns c = edge_test-is c.args.order c.points_law.ensures c.divisors_law.ensures c.args.window.now
    c.args.start.now c.args.end.now c.edge_meets_box.result c.edge_meets_box.ensures.exact
