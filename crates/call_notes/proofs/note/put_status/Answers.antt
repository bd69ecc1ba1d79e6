use Rattle.std.proofs.Common.{◌∷◌, ◌++◌, codes, sym, ap, ◌∙◌}
use Rattle.cyclo_points.specs.Text.{point_text, blank}
use Rattle.call_notes.specs.ListFaultText.{list_fault_text}
use Rattle.tile_shape.specs.FaultText.{address_fault_text}
use Rattle.call_words.specs.FormatWords.{format_text}
use Rattle.call_notes.specs.Notes.{status_text}
use Rattle.call_notes.specs.RuleFaultText.{rule_fault_text}
use Rattle.call_notes.specs.ScriptFaultText.{script_fault_text}
use Rattle.call_notes.proofs.Fields.{two_words}
use Rattle.call_notes.proofs.note.put_status.Goals as goal

pub returns-in-RuleRefused-clause-status : goal.returns-in-RuleRefused-clause-status
returns-in-RuleRefused-clause-status c =
    two_words c.args.line.now.bytes _ _ (codes "RuleRefused") (rule_fault_text c.in-RuleRefused.fault)
    c.put_word-in-RuleRefused.ensures c.put_rule_fault.ensures.fault
    ∙ ap (λ s. c.args.line.now.bytes ++ blank ∷ status_text s) (sym c.in-RuleRefused.is)

pub returns-in-BadAddress-clause-status : goal.returns-in-BadAddress-clause-status
returns-in-BadAddress-clause-status c =
    two_words c.args.line.now.bytes _ _ (codes "BadAddress") (address_fault_text c.in-BadAddress.fault)
    c.put_word-in-BadAddress.ensures c.put_address_fault.ensures.fault
    ∙ ap (λ s. c.args.line.now.bytes ++ blank ∷ status_text s) (sym c.in-BadAddress.is)

pub returns-in-CoordLimit-clause-status : goal.returns-in-CoordLimit-clause-status
returns-in-CoordLimit-clause-status c =
    two_words c.args.line.now.bytes _ _ (codes "CoordLimit") (point_text c.in-CoordLimit.value)
    c.put_word-in-CoordLimit.ensures c.put_point.ensures.point
    ∙ ap (λ s. c.args.line.now.bytes ++ blank ∷ status_text s) (sym c.in-CoordLimit.is)

pub returns-in-DepthLimit-clause-status : goal.returns-in-DepthLimit-clause-status
returns-in-DepthLimit-clause-status c = c.put_depth_limit.ensures.limit
    ∙ ap (λ s. c.args.line.now.bytes ++ blank ∷ status_text s) (sym c.in-DepthLimit.is)

pub returns-in-NoLayer-clause-status : goal.returns-in-NoLayer-clause-status
returns-in-NoLayer-clause-status c =
    two_words c.args.line.now.bytes _ _ (codes "NoLayer") (format_text c.in-NoLayer.format)
    c.put_word-in-NoLayer.ensures (c.put_word-in-NoLayer-2.ensures
    ∙ ap (λ w. c.put_word-in-NoLayer.new.line.bytes ++ blank ∷ w) c.format_text.ensures)
    ∙ ap (λ s. c.args.line.now.bytes ++ blank ∷ status_text s) (sym c.in-NoLayer.is)

pub returns-in-BadScript-clause-status : goal.returns-in-BadScript-clause-status
returns-in-BadScript-clause-status c =
    two_words c.args.line.now.bytes _ _ (codes "BadScript") (script_fault_text c.in-BadScript.fault)
    c.put_word-in-BadScript.ensures c.put_script_fault.ensures.fault
    ∙ ap (λ s. c.args.line.now.bytes ++ blank ∷ status_text s) (sym c.in-BadScript.is)

pub returns-in-BadListing-clause-status : goal.returns-in-BadListing-clause-status
returns-in-BadListing-clause-status c =
    two_words c.args.line.now.bytes _ _ (codes "BadListing") (list_fault_text c.in-BadListing.fault)
    c.put_word-in-BadListing.ensures c.put_list_fault.ensures.fault
    ∙ ap (λ s. c.args.line.now.bytes ++ blank ∷ status_text s) (sym c.in-BadListing.is)
