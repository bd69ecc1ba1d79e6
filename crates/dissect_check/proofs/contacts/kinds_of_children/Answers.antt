use Rattle.std.proofs.Common.{◌≡◌, map, ◌∙◌, rules}
use Rattle.rule_model.specs.declared.child.Child.{Child}
use Rattle.dissect_check.proofs.RowOfKind.{row_there, kinds_are}
use Rattle.dissect_check.proofs.contacts.kinds_of_children.Goals as goal

pub returns : goal.returns
returns c =
    let r = c.args.rule.now in
    let row = c.index-row.result.now in
    let items : c.in_ok-collect.field-0.items ≡ map (λ (child : Child). child.kind) row.children.items = search rules in
    items ∙ kinds_are r c.args.kind row (row_there r c.args.kind c.requires) c.index-row.ensures
