use Rattle.list_verify.proofs.WrittenSoFar.{IsWrittenTo}
use Rattle.list_verify.proofs.as_written.is_text_of.Given as goal

abbrev pub invariant-loop-place : goal.invariant-loop-place
invariant-loop-place l = IsWrittenTo l.place l.fn.tiles l.fn.text l.rest
