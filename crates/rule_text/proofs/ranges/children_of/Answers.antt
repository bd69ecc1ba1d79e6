use Rattle.std.proofs.Common.{◌≡◌, ℤ, Vec, Global, ap, sym, ◌∙◌, map, ◌++◌, [], ◌∷◌, arith}
use Rattle.std.proofs.lemmas.Grind.{common_steps}
use Rattle.std.proofs.lemmas.List.{map_push}
use Rattle.rule_model.specs.Views.{as_child}
use Rattle.rule_text.specs.Ranges.{child_in_row}
use Rattle.rule_text.proofs.Walks.{each-more}
use Rattle.rule_text.proofs.ranges.children_of.Goals as goal

pub loop-row-preserved : goal.loop-row-preserved
loop-row-preserved c =
    let found = sym (c.in-Some.ensures ∙ ap (child_in_row c.args.order) c.as_slice.ensures.value) in
    let done : map as_child c.push.new.self.items ≡ map as_child c.loop-row.children.items ++ as_child c.in-Some.child ∷ [] =
    ap (map as_child) c.in_ok-push.ensures.items ∙ map_push as_child c.loop-row.children.items c.in-Some.child in
    rw done (each-more (λ (row : Vec ℤ Global). child_in_row c.args.order row.items) c.args.rows.now
    c.loop-row.row-index c.row-item.result (as_child c.in-Some.child)
    (map as_child c.loop-row.children.items) c.loop-row-test.true c.row-item.is found
    c.loop-row.invariant)

pub returns-in_err-push : goal.returns-in_err-push
returns-in_err-push c = grind arith

pub returns-in_default : goal.returns-in_default
returns-in_default c = grind (arith, common_steps)

pub returns : goal.returns
returns c = grind (arith, common_steps)
