use Rattle.std.proofs.Common.{◌-◌}
use Rattle.window_cover.proofs.Bisected.{ArePartedAt}
use Rattle.window_cover.proofs.covered_tiles.CoveredTiles.number_of.Given as goal

abbrev pub invariant-loop-first : goal.invariant-loop-first
invariant-loop-first l = ArePartedAt l.fn.self l.fn.motion l.fn.kind l.first l.end

abbrev pub decreases-loop-first : goal.decreases-loop-first
decreases-loop-first l = l.end - l.first
