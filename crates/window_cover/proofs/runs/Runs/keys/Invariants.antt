use Rattle.std.proofs.Common.{◌≡◌, take}
use Rattle.window_cover.specs.Keys.{keys_from}
use Rattle.window_cover.specs.Runs.{seen}
use Rattle.window_cover.proofs.runs.Runs.keys.Given as goal

abbrev pub invariant-loop-number : goal.invariant-loop-number
invariant-loop-number l = l.keys.items ≡ keys_from 0 (take l.number (seen l.fn.self))
