use Rattle.std.proofs.Common.{ℤ, Vec, Global, ap, sym, ◌∙◌, arith}
use Rattle.std.proofs.lemmas.Grind.{common_steps, elements}
use Rattle.rule_text.specs.Ranges.{file_point}
use Rattle.rule_text.proofs.Walks.{each-more}
use Rattle.rule_text.proofs.ranges.points_of.Goals as goal

pub loop-row-preserved : goal.loop-row-preserved
loop-row-preserved c =
    let found = sym (c.in-Some.ensures ∙ ap (file_point c.args.order) c.as_slice.ensures.value) in
    rw c.in_ok-push.ensures.items (each-more (λ (row : Vec ℤ Global). file_point c.args.order row.items)
    c.args.rows.now c.loop-row.row-index c.row-item.result c.in-Some.point c.loop-row.points.items
    c.loop-row-test.true c.row-item.is found c.loop-row.invariant)

pub returns-in_default : goal.returns-in_default
returns-in_default c = grind (arith, common_steps)

pub returns-in_err-push : goal.returns-in_err-push
returns-in_err-push c = grind (arith, elements)

pub returns : goal.returns
returns c = grind (arith, common_steps)
