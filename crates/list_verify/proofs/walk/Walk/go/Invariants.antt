use Rattle.std.proofs.Common.{◌-◌, length}
use Rattle.list_verify.proofs.EachLine.{HasCrossedLines}
use Rattle.list_verify.proofs.walk.Walk.go.Given as goal

abbrev pub invariant-loop-place : goal.invariant-loop-place
invariant-loop-place g l = HasCrossedLines l.self l.fn.frame l.frame l.fn.found l.found l.place

abbrev pub decreases-loop-place : goal.decreases-loop-place
decreases-loop-place g l = length l.self.lines.now - l.place
