use Rattle.std.proofs.Common.{◌≡◌, pos, ◌+ℤ◌, ◌*ℤ◌, ◌∙◌, ap₂, sym, subst, arith}
use Rattle.std.proofs.lemmas.Grind.{common_steps}
use Rattle.cyclo_points.specs.Real.{real_in}
use Rattle.cyclo_points.proofs.Reals.{in_either}
use Rattle.cyclo_points.proofs.RealProducts.{read_short_product, short_kept, short_double_sum, short_sum, short_three, multiplied, multiplied_four, multiplied_six, multiplied_eight, multiplied_ten}
use Rattle.cyclo_points.proofs.real_product.short_product.Goals as goal

pub returns-in-Four-clause-product : goal.returns-in-Four-clause-product
returns-in-Four-clause-product c =
    let i = c.requires in
    let t = c.short_times in
    let e = c.from_parts.ensures.of_a ∙ short_kept t.result t.ensures.bounded ∙ t.ensures.value
    ∙ read_short_product c.args.a c.args.c i.a_within i.c_within in
    in_either (λ o. real_in o c.from_parts.result ≡ multiplied o c.args.a c.args.b c.args.c c.args.d) c.args.order c.in-Four.is
    (multiplied_four c.args.a c.args.b c.args.c c.args.d c.from_parts.result.a e)
    (multiplied_six c.args.a c.args.b c.args.c c.args.d c.from_parts.result.a e)

pub returns-in-Eight-clause-product : goal.returns-in-Eight-clause-product
returns-in-Eight-clause-product c =
    let i = c.requires in
    let first = c.short_times-first in
    let last = c.short_times-last in
    let outer = c.short_times-outer in
    let inner = c.short_times-inner in
    let made = c.from_parts-in-Eight in
    let ac = first.ensures.value ∙ read_short_product c.args.a c.args.c i.a_within i.c_within in
    let bd = last.ensures.value ∙ read_short_product c.args.b c.args.d i.b_within i.d_within in
    let ad = outer.ensures.value ∙ read_short_product c.args.a c.args.d i.a_within i.d_within in
    let bc = inner.ensures.value ∙ read_short_product c.args.b c.args.c i.b_within i.c_within in
    subst (λ o. real_in o made.result ≡ multiplied o c.args.a c.args.b c.args.c c.args.d) (sym c.in-Eight.is)
    (multiplied_eight c.args.a c.args.b c.args.c c.args.d made.result.a made.result.b
    (made.ensures.of_a ∙ short_double_sum first.result last.result first.ensures.bounded last.ensures.bounded ∙ ap₂ (λ x y. x +ℤ pos 2 *ℤ y) ac bd)
    (made.ensures.of_b ∙ short_sum outer.result inner.result outer.ensures.bounded inner.ensures.bounded ∙ ap₂ ◌+ℤ◌ ad bc))

pub returns-in-Ten-clause-product : goal.returns-in-Ten-clause-product
returns-in-Ten-clause-product c =
    let i = c.requires in
    let first = c.short_times-first-in-Ten in
    let last = c.short_times-last-in-Ten in
    let outer = c.short_times-outer-in-Ten in
    let inner = c.short_times-inner-in-Ten in
    let made = c.from_parts-in-Ten in
    let ac = first.ensures.value ∙ read_short_product c.args.a c.args.c i.a_within i.c_within in
    let bd = last.ensures.value ∙ read_short_product c.args.b c.args.d i.b_within i.d_within in
    let ad = outer.ensures.value ∙ read_short_product c.args.a c.args.d i.a_within i.d_within in
    let bc = inner.ensures.value ∙ read_short_product c.args.b c.args.c i.b_within i.c_within in
    subst (λ o. real_in o made.result ≡ multiplied o c.args.a c.args.b c.args.c c.args.d) (sym c.in-Ten.is)
    (multiplied_ten c.args.a c.args.b c.args.c c.args.d made.result.a made.result.b
    (made.ensures.of_a ∙ short_sum first.result last.result first.ensures.bounded last.ensures.bounded ∙ ap₂ ◌+ℤ◌ ac bd)
    (made.ensures.of_b ∙ short_three outer.result inner.result last.result outer.ensures.bounded
    inner.ensures.bounded last.ensures.bounded ∙ ap₂ ◌+ℤ◌ (ap₂ ◌+ℤ◌ ad bc) bd))

pub returns-in-Four-clause-in_order : goal.returns-in-Four-clause-in_order
returns-in-Four-clause-in_order c = grind (arith, common_steps)

pub returns-in-Eight-clause-in_order : goal.returns-in-Eight-clause-in_order
returns-in-Eight-clause-in_order c = grind (arith, common_steps)

pub returns-in-Ten-clause-in_order : goal.returns-in-Ten-clause-in_order
returns-in-Ten-clause-in_order c = grind (arith, common_steps)
