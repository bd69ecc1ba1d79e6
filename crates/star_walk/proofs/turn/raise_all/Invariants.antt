use Rattle.std.proofs.Common.{◌≡◌, take, drop}
use Rattle.std.specs.List.{AllZip}
use Rattle.star_walk.specs.Found.{IsRaised}
use Rattle.star_walk.proofs.turn.raise_all.Given as goal

abbrev pub invariant-loop-corner : goal.invariant-loop-corner
invariant-loop-corner l = AllZip (IsRaised l.frame) (take l.corner-index l.fn.corners)
    (take l.corner-index l.corners) × (drop l.corner-index l.corners ≡ drop l.corner-index l.fn.corners)
