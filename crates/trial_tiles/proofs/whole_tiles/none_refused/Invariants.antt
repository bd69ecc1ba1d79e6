use Rattle.std.proofs.Common.{◌^◌, All, take}
use Rattle.cyclo_points.specs.Point.{IsWithin}
use Rattle.trial_tiles.proofs.whole_tiles.none_refused.Given as goal

abbrev pub invariant-loop-number : goal.invariant-loop-number
invariant-loop-number l = All (λ x. IsWithin (2 ^ 24) x.motion.shift) (take l.number l.fn.tiles)
