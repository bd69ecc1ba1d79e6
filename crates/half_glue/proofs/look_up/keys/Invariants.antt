use Rattle.std.proofs.Common.{◌≡◌, take}
use Rattle.half_glue.specs.Keys.{own_keys}
use Rattle.half_glue.proofs.look_up.keys.Given as goal

abbrev pub invariant-loop-number : goal.invariant-loop-number
invariant-loop-number l = l.keys.items ≡ own_keys (take l.number l.fn.tiles)
