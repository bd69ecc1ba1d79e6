use Rattle.std.proofs.Common.{sym, ap, ◌∙◌}
use Rattle.listing_text.specs.declared.entry.Entry.{Entry}
use Rattle.list_verify.proofs.Chains.{get_or-at}
use Rattle.list_verify.proofs.found_lines.FoundLines.mark.Goals as goal

pub returns-clause-motion : goal.returns-clause-motion
returns-clause-motion c e at = ap (λ (x : Entry). x.motion)
    (sym (get_or-at c.args.lines.now c.args.line e _ at))
    ∙ c.is_same_motion.ensures.same.0 c.if-not-is_same_motion.false
