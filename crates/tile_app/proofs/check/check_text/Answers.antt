use Rattle.std.proofs.Common.{◌∙◌}
use Rattle.std.proofs.lemmas.Result.{IfOk-weaker}
use Rattle.tile_app.proofs.Lines.{check_line_of}
use Rattle.tile_app.proofs.check.check_text.Goals as goal

pub returns : goal.returns
returns c =
    let inner = c.rule-rule.result.now in
    IfOk-weaker c.format.result _ _
    (λ text e. e ∙ check_line_of inner c.args.checked.now c.n-order.result c.kind_count-kinds.result
    c.type_count-types.result c.rule-rule.ensures.rule c.n-order.ensures
    (c.kind_count-kinds.ensures.numbers inner.order) (c.type_count-types.ensures.numbers inner.order)) c.format.ensures.ok
