use Rattle.std.proofs.Common.{List, ℕ}
use Rattle.transducer_core.specs.Merging.{StandsLast}
use Rattle.transducer_core.proofs.Keeping.{IsPast}
use Rattle.transducer_core.proofs.merging.find.Given as goal

abbrev pub invariant-loop-end : goal.invariant-loop-end
invariant-loop-end l = (kept : List (List ℕ)) (block : List ℕ) → StandsLast kept block l.words l.ends l.last → IsPast kept block l.begin l.end-index
