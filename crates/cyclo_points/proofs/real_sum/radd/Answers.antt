use Rattle.std.proofs.Common.{◌≡◌, ◌∙◌, ap₂, subst, sym, Greater}
use Rattle.cyclo_points.specs.Order.{points_of}
use Rattle.cyclo_points.specs.Real.{number}
use Rattle.cyclo_points.proofs.OrderLaws.{laws_of}
use Rattle.cyclo_points.proofs.Reals.{number-add, wide_sum-is}
use Rattle.cyclo_points.proofs.real_sum.radd.Goals as goal

pub returns-clause-sum : goal.returns-clause-sum
returns-clause-sum c =
    let r = c.requires.r_within in
    let s = c.requires.s_within in
    λ o. ap₂ (number o) (wide_sum-is _ _ r.at_a s.at_a) (wide_sum-is _ _ r.at_b s.at_b)
    ∙ number-add o c.args.r.now.a c.args.r.now.b c.args.s.now.a c.args.s.now.b

pub returns-clause-positive : goal.returns-clause-positive
returns-clause-positive c = λ o p q. subst (λ x. (points_of o).real.sign x ≡ Greater)
    (sym (returns-clause-sum c o)) ((laws_of o).of_order.sign-add _ _ p q)
