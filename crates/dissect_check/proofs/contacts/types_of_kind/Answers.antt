use Rattle.std.proofs.Common.{◌++◌, ap₂, ◌∙◌}
use Rattle.dissect_check.proofs.RowOfKind.{row_there, types_are}
use Rattle.dissect_check.proofs.contacts.types_of_kind.Goals as goal

pub returns : goal.returns
returns c =
    let r = c.args.rule.now in
    let row = c.index.result.now in
    c.in_ok-extend_from_slice.ensures.items
    ∙ ap₂ (λ xs ys. xs ++ ys) c.new-types.ensures.items c.deref.ensures.value
    ∙ types_are r c.args.kind row (row_there r c.args.kind c.requires) c.index.ensures
