use Rattle.std.proofs.Common.{◌∙◌, ap₂}
use Rattle.cyclo_points.specs.Real.{number}
use Rattle.cyclo_points.proofs.Reals.{number-difference, wide_difference-is}
use Rattle.cyclo_points.proofs.real_sum.rsub.Goals as goal

pub returns-clause-is_difference : goal.returns-clause-is_difference
returns-clause-is_difference c =
    let r = c.requires.r_within in
    let s = c.requires.s_within in
    λ o. ap₂ (number o) (wide_difference-is _ _ r.at_a s.at_a) (wide_difference-is _ _ r.at_b s.at_b)
    ∙ number-difference o c.args.r.now.a c.args.r.now.b c.args.s.now.a c.args.s.now.b
