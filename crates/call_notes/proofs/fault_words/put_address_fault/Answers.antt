use Rattle.std.proofs.Common.{◌∷◌, ◌++◌, codes, decimal, sym, ap, ◌∙◌}
use Rattle.tile_shape.specs.FaultText.{address_fault_text}
use Rattle.cyclo_points.specs.Text.{blank}
use Rattle.call_notes.proofs.fault_words.put_address_fault.Goals as goal

pub returns-in-UnknownKind-clause-fault : goal.returns-in-UnknownKind-clause-fault
returns-in-UnknownKind-clause-fault c =
    c.put_numbered-in-UnknownKind.ensures.numbered
    ∙ ap (λ n. c.args.line.now.bytes ++ blank ∷ (codes "UnknownKind" ++ blank ∷ decimal n)) c.from.ensures
    ∙ ap (λ f. c.args.line.now.bytes ++ blank ∷ address_fault_text f) (sym c.in-UnknownKind.is)

pub returns-in-WrongChild-clause-fault : goal.returns-in-WrongChild-clause-fault
returns-in-WrongChild-clause-fault c =
    c.put_numbered-in-WrongChild.ensures.numbered
    ∙ ap (λ n. c.args.line.now.bytes ++ blank ∷ (codes "WrongChild" ++ blank ∷ decimal n))
    c.from-in-WrongChild.ensures
    ∙ ap (λ f. c.args.line.now.bytes ++ blank ∷ address_fault_text f) (sym c.in-WrongChild.is)
