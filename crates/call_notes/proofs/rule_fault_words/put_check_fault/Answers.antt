use Rattle.std.proofs.Common.{◌∷◌, ◌++◌, codes, decimal, sym, ap, ◌∙◌}
use Rattle.call_notes.specs.CheckFaultText.{check_fault_text}
use Rattle.cyclo_points.specs.Text.{blank}
use Rattle.call_notes.proofs.rule_fault_words.put_check_fault.Goals as goal

pub returns-in-BadSubdivision-clause-fault : goal.returns-in-BadSubdivision-clause-fault
returns-in-BadSubdivision-clause-fault c =
    c.put_numbered-in-BadSubdivision.ensures.numbered
    ∙ ap (λ n. c.args.line.now.bytes ++ blank ∷ (codes "BadSubdivision" ++ blank ∷ decimal n))
    c.from-in-BadSubdivision.ensures
    ∙ ap (λ f. c.args.line.now.bytes ++ blank ∷ check_fault_text f) (sym c.in-BadSubdivision.is)

pub returns-in-ChildEdgeLoose-clause-fault : goal.returns-in-ChildEdgeLoose-clause-fault
returns-in-ChildEdgeLoose-clause-fault c =
    c.put_triple.ensures.triple ∙ ap (λ f. c.args.line.now.bytes ++ blank ∷ check_fault_text f) (sym c.in-ChildEdgeLoose.is)
