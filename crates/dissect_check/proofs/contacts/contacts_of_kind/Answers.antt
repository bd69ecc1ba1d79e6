use Rattle.std.proofs.Common.{sym, subst}
use Rattle.std.specs.List.{All}
use Rattle.dissect_check.specs.Parts.{LiesBelow}
use Rattle.dissect_check.proofs.LieBounds.{lies_below}
use Rattle.dissect_check.proofs.Parts.{part_lists}
use Rattle.dissect_check.proofs.contacts.contacts_of_kind.Goals as goal

pub contacts_of_child-requires-clause-below : goal.contacts_of_child-requires-clause-below
contacts_of_child-requires-clause-below c =
    let r = c.args.rule.now in
    let i = c.args.inflated.now in
    subst (λ n. All (LiesBelow n) i.lies.items)
    (sym (part_lists r c.args.kind c.args.parts.now c.requires.parts))
    (lies_below r c.args.kind i c.requires.inflated)
