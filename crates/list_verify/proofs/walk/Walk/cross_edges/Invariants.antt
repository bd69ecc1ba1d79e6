use Rattle.list_verify.proofs.EachEdge.{HasCrossed}
use Rattle.list_verify.proofs.walk.Walk.cross_edges.Given as goal

abbrev pub invariant-loop-edge : goal.invariant-loop-edge
invariant-loop-edge g l = HasCrossed l.self l.fn.frame l.frame l.fn.found l.found l.line l.edge
