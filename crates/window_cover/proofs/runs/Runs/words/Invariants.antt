use Rattle.std.proofs.Common.{◌≡◌, take}
use Rattle.window_cover.specs.Runs.{seen}
use Rattle.window_cover.specs.Words.{words_from}
use Rattle.window_cover.proofs.runs.Runs.words.Given as goal

abbrev pub invariant-loop-number : goal.invariant-loop-number
invariant-loop-number l = l.words.items ≡ words_from l.fn.fields 0 (take l.number (seen l.fn.self))
