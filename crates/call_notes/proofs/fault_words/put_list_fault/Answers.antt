use Rattle.std.proofs.Common.{◌∷◌, ◌++◌, codes, decimal, sym, ap, ◌∙◌}
use Rattle.cyclo_points.specs.Text.{motion_text, point_text, blank}
use Rattle.call_notes.specs.ListFaultText.{list_fault_text}
use Rattle.tile_shape.specs.FaultText.{address_fault_text}
use Rattle.tile_shape.specs.Text.{address_text}
use Rattle.tile_shape.specs.Views.{address_of}
use Rattle.call_notes.proofs.Fields.{two_words}
use Rattle.call_notes.proofs.fault_words.put_list_fault.Goals as goal

pub returns-in-BadLine-clause-fault : goal.returns-in-BadLine-clause-fault
returns-in-BadLine-clause-fault c =
    two_words c.args.text.now.bytes _ _ (codes "BadLine" ++ blank ∷ decimal c.in-BadLine.line)
    (decimal c.in-BadLine.place) c.put_line_fault.ensures.fault
    (c.put_number.ensures.number ∙ ap (λ n. c.put_line_fault.new.text.bytes ++ blank ∷ decimal n)
    c.from.ensures)
    ∙ ap (λ f. c.args.text.now.bytes ++ blank ∷ list_fault_text f) (sym c.in-BadLine.is)

pub returns-in-Address-clause-fault : goal.returns-in-Address-clause-fault
returns-in-Address-clause-fault c =
    two_words c.args.text.now.bytes _ _ (codes "Address" ++ blank ∷ decimal c.in-Address.line)
    (address_fault_text c.in-Address.fault) c.put_line_fault-in-Address.ensures.fault
    c.put_address_fault.ensures.fault
    ∙ ap (λ f. c.args.text.now.bytes ++ blank ∷ list_fault_text f) (sym c.in-Address.is)

pub returns-in-BadKind-clause-fault : goal.returns-in-BadKind-clause-fault
returns-in-BadKind-clause-fault c = c.put_line_fault-in-BadKind.ensures.fault
    ∙ ap (λ f. c.args.text.now.bytes ++ blank ∷ list_fault_text f) (sym c.in-BadKind.is)

pub returns-in-NotOfFrame-clause-fault : goal.returns-in-NotOfFrame-clause-fault
returns-in-NotOfFrame-clause-fault c = c.put_line_fault-in-NotOfFrame.ensures.fault
    ∙ ap (λ f. c.args.text.now.bytes ++ blank ∷ list_fault_text f) (sym c.in-NotOfFrame.is)

pub returns-in-Double-clause-fault : goal.returns-in-Double-clause-fault
returns-in-Double-clause-fault c = c.put_line_fault-in-Double.ensures.fault
    ∙ ap (λ f. c.args.text.now.bytes ++ blank ∷ list_fault_text f) (sym c.in-Double.is)

pub returns-in-Missing-clause-fault : goal.returns-in-Missing-clause-fault
returns-in-Missing-clause-fault c =
    two_words c.args.text.now.bytes _ _ (codes "Missing") (address_text (address_of c.in-Missing.addr))
    c.put_word-in-Missing.ensures c.put_address.ensures.address
    ∙ ap (λ f. c.args.text.now.bytes ++ blank ∷ list_fault_text f) (sym c.in-Missing.is)

pub returns-in-WrongPlace-clause-fault : goal.returns-in-WrongPlace-clause-fault
returns-in-WrongPlace-clause-fault c =
    two_words c.args.text.now.bytes _ _ (codes "WrongPlace" ++ blank ∷ decimal c.in-WrongPlace.line)
    (motion_text c.in-WrongPlace.motion) c.put_line_fault-in-WrongPlace.ensures.fault
    c.put_motion.ensures.motion
    ∙ ap (λ f. c.args.text.now.bytes ++ blank ∷ list_fault_text f) (sym c.in-WrongPlace.is)

pub returns-in-Stray-clause-fault : goal.returns-in-Stray-clause-fault
returns-in-Stray-clause-fault c = c.put_line_fault-in-Stray.ensures.fault
    ∙ ap (λ f. c.args.text.now.bytes ++ blank ∷ list_fault_text f) (sym c.in-Stray.is)

pub returns-in-DepthLimit-clause-fault : goal.returns-in-DepthLimit-clause-fault
returns-in-DepthLimit-clause-fault c = c.put_depth_limit.ensures.limit
    ∙ ap (λ f. c.args.text.now.bytes ++ blank ∷ list_fault_text f) (sym c.in-DepthLimit.is)

pub returns-in-CoordLimit-clause-fault : goal.returns-in-CoordLimit-clause-fault
returns-in-CoordLimit-clause-fault c =
    two_words c.args.text.now.bytes _ _ (codes "CoordLimit") (point_text c.in-CoordLimit.value)
    c.put_word-in-CoordLimit.ensures c.put_point.ensures.point
    ∙ ap (λ f. c.args.text.now.bytes ++ blank ∷ list_fault_text f) (sym c.in-CoordLimit.is)
