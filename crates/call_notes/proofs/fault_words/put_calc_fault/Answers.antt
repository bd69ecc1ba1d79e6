use Rattle.std.proofs.Common.{◌∷◌, ◌++◌, codes, decimal, sym, ap, ◌∙◌, append_assoc}
use Rattle.call_notes.specs.CalcFaultText.{calc_fault_text}
use Rattle.cyclo_points.specs.Text.{point_text, blank}
use Rattle.call_notes.proofs.Fields.{two_words}
use Rattle.call_notes.proofs.fault_words.put_calc_fault.Goals as goal

pub returns-in-UnknownName-clause-fault : goal.returns-in-UnknownName-clause-fault
returns-in-UnknownName-clause-fault c =
    c.put_numbered-in-UnknownName.ensures.numbered
    ∙ ap (λ n. c.args.line.now.bytes ++ blank ∷ (codes "UnknownName" ++ blank ∷ decimal n))
    c.from-in-UnknownName.ensures
    ∙ ap (λ f. c.args.line.now.bytes ++ blank ∷ calc_fault_text f) (sym c.in-UnknownName.is)

pub returns-in-CoordLimit-clause-fault : goal.returns-in-CoordLimit-clause-fault
returns-in-CoordLimit-clause-fault c =
    two_words c.args.line.now.bytes _ _ (codes "CoordLimit" ++ blank ∷ decimal c.from-in-CoordLimit.result)
    (point_text c.in-CoordLimit.value) c.put_numbered-in-CoordLimit.ensures.numbered
    c.put_point.ensures.point
    ∙ ap (λ n. c.args.line.now.bytes ++ blank ∷ (codes "CoordLimit" ++ blank ∷ decimal n ++ blank
    ∷ point_text c.in-CoordLimit.value)) c.from-in-CoordLimit.ensures
    ∙ ap (λ text. c.args.line.now.bytes ++ blank ∷ text)
    (sym (append_assoc (codes "CoordLimit " ++ decimal c.in-CoordLimit.number) (codes " ")
    (point_text c.in-CoordLimit.value)))
    ∙ ap (λ f. c.args.line.now.bytes ++ blank ∷ calc_fault_text f) (sym c.in-CoordLimit.is)
