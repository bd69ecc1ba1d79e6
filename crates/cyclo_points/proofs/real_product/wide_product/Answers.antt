use Rattle.std.specs.Int.{w128}
use Rattle.std.proofs.Common.{◌≡◌, pos, ◌+ℤ◌, ◌*ℤ◌, ◌∙◌, ap₂, sym, subst, arith}
use Rattle.std.proofs.lemmas.Grind.{common_steps}
use Rattle.cyclo_points.specs.Real.{number}
use Rattle.cyclo_points.proofs.Reals.{in_either, reading}
use Rattle.cyclo_points.proofs.RealProducts.{read_wide_product, wide_kept, wide_double_sum, wide_sum, wide_three, multiplied, multiplied_four, multiplied_six, multiplied_eight, multiplied_ten}
use Rattle.cyclo_points.proofs.real_product.wide_product.Goals as goal

pub returns-in-Four-clause-product : goal.returns-in-Four-clause-product
returns-in-Four-clause-product c =
    let r = c.args.r.now in
    let s = c.args.s.now in
    let t = c.wide_times in
    let e = wide_kept t.result t.ensures.bounded ∙ t.ensures.value ∙ read_wide_product r.a s.a c.requires.r_within.at_a c.requires.s_within.at_a in
    in_either (λ o. number o (reading w128 t.result) (pos 0) ≡ multiplied o r.a r.b s.a s.b) c.args.order c.in-Four.is
    (multiplied_four r.a r.b s.a s.b _ e) (multiplied_six r.a r.b s.a s.b _ e)

pub returns-in-Eight-clause-product : goal.returns-in-Eight-clause-product
returns-in-Eight-clause-product c =
    let r = c.args.r.now in
    let s = c.args.s.now in
    let f = c.requires.r_within in
    let g = c.requires.s_within in
    let first = c.wide_times-first in
    let last = c.wide_times-last in
    let outer = c.wide_times-outer in
    let inner = c.wide_times-inner in
    let ac = first.ensures.value ∙ read_wide_product r.a s.a f.at_a g.at_a in
    let bd = last.ensures.value ∙ read_wide_product r.b s.b f.at_b g.at_b in
    let ad = outer.ensures.value ∙ read_wide_product r.a s.b f.at_a g.at_b in
    let bc = inner.ensures.value ∙ read_wide_product r.b s.a f.at_b g.at_a in
    let x = reading w128 (reading w128 first.result +ℤ reading w128 (pos 2 *ℤ reading w128 last.result)) in
    let y = reading w128 (reading w128 outer.result +ℤ reading w128 inner.result) in
    subst (λ o. number o x y ≡ multiplied o r.a r.b s.a s.b) (sym c.in-Eight.is)
    (multiplied_eight r.a r.b s.a s.b x y
    (wide_double_sum first.result last.result first.ensures.bounded last.ensures.bounded ∙ ap₂ (λ x y. x +ℤ pos 2 *ℤ y) ac bd)
    (wide_sum outer.result inner.result outer.ensures.bounded inner.ensures.bounded ∙ ap₂ ◌+ℤ◌ ad bc))

pub returns-in-Ten-clause-product : goal.returns-in-Ten-clause-product
returns-in-Ten-clause-product c =
    let r = c.args.r.now in
    let s = c.args.s.now in
    let f = c.requires.r_within in
    let g = c.requires.s_within in
    let first = c.wide_times-first-in-Ten in
    let last = c.wide_times-last-in-Ten in
    let outer = c.wide_times-outer-in-Ten in
    let inner = c.wide_times-inner-in-Ten in
    let ac = first.ensures.value ∙ read_wide_product r.a s.a f.at_a g.at_a in
    let bd = last.ensures.value ∙ read_wide_product r.b s.b f.at_b g.at_b in
    let ad = outer.ensures.value ∙ read_wide_product r.a s.b f.at_a g.at_b in
    let bc = inner.ensures.value ∙ read_wide_product r.b s.a f.at_b g.at_a in
    let x = reading w128 (reading w128 first.result +ℤ reading w128 last.result) in
    let y = reading w128 (reading w128 (reading w128 outer.result +ℤ reading w128 inner.result) +ℤ reading w128 last.result) in
    subst (λ o. number o x y ≡ multiplied o r.a r.b s.a s.b) (sym c.in-Ten.is)
    (multiplied_ten r.a r.b s.a s.b x y
    (wide_sum first.result last.result first.ensures.bounded last.ensures.bounded ∙ ap₂ ◌+ℤ◌ ac bd)
    (wide_three outer.result inner.result last.result outer.ensures.bounded inner.ensures.bounded
    last.ensures.bounded ∙ ap₂ ◌+ℤ◌ (ap₂ ◌+ℤ◌ ad bc) bd))

pub returns-in-Four-clause-in_order : goal.returns-in-Four-clause-in_order
returns-in-Four-clause-in_order c = grind (arith, common_steps)

pub returns-in-Eight-clause-in_order : goal.returns-in-Eight-clause-in_order
returns-in-Eight-clause-in_order c = grind (arith, common_steps)

pub returns-in-Ten-clause-in_order : goal.returns-in-Ten-clause-in_order
returns-in-Ten-clause-in_order c = grind (arith, common_steps)
