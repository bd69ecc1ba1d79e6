use Rattle.std.proofs.Common.{◌∷◌, ◌++◌, codes, sym, ap, ◌∙◌}
use Rattle.call_notes.specs.TextFaultText.{text_fault_text, place_text}
use Rattle.cyclo_points.specs.Text.{blank}
use Rattle.call_notes.proofs.Fields.{two_words}
use Rattle.call_notes.proofs.rule_fault_words.put_text_fault.Goals as goal

pub returns-in-UnknownKey-clause-fault : goal.returns-in-UnknownKey-clause-fault
returns-in-UnknownKey-clause-fault c =
    two_words c.args.line.now.bytes _ _ (codes "UnknownKey") (place_text c.in-UnknownKey.place)
    c.put_word-in-UnknownKey.ensures c.put_place.ensures.place
    ∙ ap (λ f. c.args.line.now.bytes ++ blank ∷ text_fault_text f) (sym c.in-UnknownKey.is)
