use Rattle.std.proofs.Common.{◌≡◌, take}
use Rattle.window_cover.proofs.covered_tiles.CoveredTiles.listed.Given as goal

abbrev pub invariant-loop-place : goal.invariant-loop-place
invariant-loop-place l = l.tiles.items ≡ take l.place l.fn.self
