use Rattle.window_descent.proofs.meeting.some_vertex_inside.Given as goal

abbrev pub invariant-loop-corner : goal.invariant-loop-corner
invariant-loop-corner l = record {}
