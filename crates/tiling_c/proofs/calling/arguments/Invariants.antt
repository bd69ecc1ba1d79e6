use Rattle.std.proofs.Common.{◌≡◌, map, take}
use Rattle.call_words.specs.Words.{texts}
use Rattle.tiling_c.proofs.calling.arguments.Given as goal

-- the words so far
abbrev pub invariant-loop-piece : goal.invariant-loop-piece
invariant-loop-piece l = texts l.words.items ≡ map (λ x. x.now) (take l.piece-index l.piece-items)
