use Rattle.std.proofs.Common.{◌≡◌, ◌^◌, pos, ◌+ℤ◌, sym, refl, subst, ap, ◌∙◌, arith}
use Rattle.std.proofs.lemmas.Grind.{common_steps}
use Rattle.cyclo_points.specs.declared.order.Order.TheVariants.{Eight, Ten}
use Rattle.std.specs.declared.cmp.Ordering.TheVariants.{Greater}
use Rattle.cyclo_points.specs.Point.{Within}
use Rattle.cyclo_points.proofs.Reals.{in_either, sign_at}
use Rattle.cyclo_points.proofs.ShortMultiples.{thousand_back, product, read_product, read_eight, read_ten, eight-at_most, eight-below_next, ten-at_most, ten-below_next, eight-low, eight-high, ten-low, ten-high, eight-within, ten-within}
use Rattle.cyclo_points.proofs.thousandths.short_multiple.Goals as goal

pub returns-in-Four-clause-at_most : goal.returns-in-Four-clause-at_most
returns-in-Four-clause-at_most c = in_either (λ o. sign_at o (pos 0) (thousand_back c.args.b) ≡ Greater → ⊥)
    c.args.order c.in-Four.is (λ e. cc e) (λ e. cc e)

pub returns-in-Four-clause-below_next : goal.returns-in-Four-clause-below_next
returns-in-Four-clause-below_next c = in_either (λ o. sign_at o (pos 1) (thousand_back c.args.b) ≡ Greater) c.args.order c.in-Four.is refl refl

pub returns-in-Eight-clause-at_most : goal.returns-in-Eight-clause-at_most
returns-in-Eight-clause-at_most c =
    let b = c.args.b in
    let h = c.requires.b_within in
    λ e. eight-at_most (product b h 1414 7514057999150) b h (eight-low b h)
    (ap (λ x. sign_at Eight x (thousand_back b)) (sym (read_eight b h))
    ∙ ap (λ o. sign_at o (read_product b h 1414 7514057999150) (thousand_back b)) (sym c.in-Eight.is) ∙ e)

pub returns-in-Eight-clause-below_next : goal.returns-in-Eight-clause-below_next
returns-in-Eight-clause-below_next c =
    let b = c.args.b in
    let h = c.requires.b_within in
    ap (λ o. sign_at o (read_product b h 1414 7514057999150 +ℤ pos 1) (thousand_back b)) c.in-Eight.is
    ∙ ap (λ x. sign_at Eight (x +ℤ pos 1) (thousand_back b)) (read_eight b h)
    ∙ eight-below_next (product b h 1414 7514057999150) b h (eight-high b h)

pub returns-in-Eight-clause-bounded : goal.returns-in-Eight-clause-bounded
returns-in-Eight-clause-bounded c = subst (Within (2 ^ 42)) (sym (read_eight c.args.b c.requires.b_within))
    (eight-within c.args.b c.requires.b_within)

pub returns-in-Ten-clause-at_most : goal.returns-in-Ten-clause-at_most
returns-in-Ten-clause-at_most c =
    let b = c.args.b in
    let h = c.requires.b_within in
    λ e. ten-at_most (product b h 1618 1195872823134) b h (ten-low b h)
    (ap (λ x. sign_at Ten x (thousand_back b)) (sym (read_ten b h))
    ∙ ap (λ o. sign_at o (read_product b h 1618 1195872823134) (thousand_back b)) (sym c.in-Ten.is) ∙ e)

pub returns-in-Ten-clause-below_next : goal.returns-in-Ten-clause-below_next
returns-in-Ten-clause-below_next c =
    let b = c.args.b in
    let h = c.requires.b_within in
    ap (λ o. sign_at o (read_product b h 1618 1195872823134 +ℤ pos 1) (thousand_back b)) c.in-Ten.is
    ∙ ap (λ x. sign_at Ten (x +ℤ pos 1) (thousand_back b)) (read_ten b h)
    ∙ ten-below_next (product b h 1618 1195872823134) b h (ten-high b h)

pub returns-in-Ten-clause-bounded : goal.returns-in-Ten-clause-bounded
returns-in-Ten-clause-bounded c = subst (Within (2 ^ 42)) (sym (read_ten c.args.b c.requires.b_within)) (ten-within c.args.b c.requires.b_within)

pub returns-in-Four-clause-bounded : goal.returns-in-Four-clause-bounded
returns-in-Four-clause-bounded c = grind (arith, common_steps)
