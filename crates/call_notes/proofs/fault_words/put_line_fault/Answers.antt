use Rattle.std.proofs.Common.{◌∷◌, ◌++◌, decimal, ap, ◌∙◌}
use Rattle.cyclo_points.specs.Text.{blank}
use Rattle.call_notes.proofs.fault_words.put_line_fault.Goals as goal

pub returns-clause-fault : goal.returns-clause-fault
returns-clause-fault c = c.put_numbered.ensures.numbered
    ∙ ap (λ n. c.args.text.now.bytes ++ blank ∷ (c.args.word.now ++ blank ∷ decimal n)) c.from.ensures
