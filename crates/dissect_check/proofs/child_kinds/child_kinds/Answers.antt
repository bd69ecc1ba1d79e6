use Rattle.std.proofs.Common.{◌≡◌, ◌≤◌, map, length, ap, ◌∙◌, arith}
use Rattle.std.proofs.lemmas.Grind.{common_steps}
use Rattle.std.proofs.lemmas.List.{take_all}
use Rattle.cyclo_points.specs.Point.{point_in}
use Rattle.dissect_check.proofs.ChildKinds.{kinds_listed, rows-listed}
use Rattle.dissect_check.proofs.child_kinds.child_kinds.Goals as goal

pub returns : goal.returns
returns c =
    let r = c.args.rule.now in
    let listed = c.deref-row-items.ensures.value in
    let many : length c.deref-row-items.result.now ≡ length r.kinds.items = ap length listed in
    let ended : length r.kinds.items ≤ c.loop-row.row-index = omega (arith, many, c.loop-row-test.false) in
    c.loop-row.invariant ∙ ap (map kinds_listed) (take_all c.loop-row.row-index r.kinds.items ended) ∙ rows-listed (point_in r.order) r.kinds.items

pub returns-in_err-collect : goal.returns-in_err-collect
returns-in_err-collect c = grind (arith, common_steps)
