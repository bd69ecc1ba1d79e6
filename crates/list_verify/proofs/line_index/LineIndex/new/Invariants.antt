use Rattle.list_verify.specs.LineIndex.{Indexes, NoneAgain}
use Rattle.list_verify.proofs.line_index.LineIndex.new.Given as goal

abbrev pub invariant-loop-line : goal.invariant-loop-line
invariant-loop-line l = Indexes l.index l.lines l.line × NoneAgain l.lines l.line
