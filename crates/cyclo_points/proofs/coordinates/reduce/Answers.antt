use Rattle.std.proofs.Common.{pos, ◌*◌, ◌∙◌, subst, sym, refl, arith}
use Rattle.std.proofs.lemmas.Grind.{common_steps}
use Rattle.cyclo_points.specs.Point.{coefficient, quad_of}
use Rattle.cyclo_points.proofs.Identities.{pair_path}
use Rattle.cyclo_points.proofs.Readings.{point_of, machine_difference, machine_difference-is}
use Rattle.cyclo_points.proofs.PairSizes.{within_pair}
use Rattle.cyclo_points.proofs.CoordinateReadings.{IsReduced, reduced_four, pair_six, reduced_six, reduce_six, reduce_six-is, pair_six-triples, reduced_eight, reduced_ten}
use Rattle.cyclo_points.proofs.coordinates.reduce.Goals as goal

pub returns-in-Four-clause-same_number : goal.returns-in-Four-clause-same_number
returns-in-Four-clause-same_number c =
    let p = c.args.p.now in
    let h = c.requires.p_within in
    subst (λ o. IsReduced o p (point_of (machine_difference (coefficient p 0) (coefficient p 2))
    (machine_difference (coefficient p 1) (coefficient p 3)) (pos 0) (pos 0))) (sym c.in-Four.is)
    (pair_path _ _ (machine_difference-is _ _ h.at_0 h.at_2) (machine_difference-is _ _ h.at_1 h.at_3) ∙ reduced_four (quad_of p))

pub returns-in-Six-clause-same_number : goal.returns-in-Six-clause-same_number
returns-in-Six-clause-same_number c =
    let p = c.args.p.now in
    subst (λ o. IsReduced o p (reduce_six p)) (sym c.in-Six.is) (reduce_six-is p c.requires.p_within ∙ reduced_six (quad_of p))

pub returns-in-Six-clause-at_most_tripled : goal.returns-in-Six-clause-at_most_tripled
returns-in-Six-clause-at_most_tripled c =
    λ m h. within_pair (3 * m) (reduce_six c.args.p.now) (pair_six (quad_of c.args.p.now)) (reduce_six-is c.args.p.now c.requires.p_within) refl refl
    (pair_six-triples m c.args.p.now h)

pub returns-in-Eight-clause-same_number : goal.returns-in-Eight-clause-same_number
returns-in-Eight-clause-same_number c = subst (λ o. IsReduced o c.args.p.now c.args.p.now) (sym c.in-Eight.is) (reduced_eight (quad_of c.args.p.now))

pub returns-in-Ten-clause-same_number : goal.returns-in-Ten-clause-same_number
returns-in-Ten-clause-same_number c = subst (λ o. IsReduced o c.args.p.now c.args.p.now) (sym c.in-Ten.is) (reduced_ten (quad_of c.args.p.now))

pub returns-in-Four-clause-in_order : goal.returns-in-Four-clause-in_order
returns-in-Four-clause-in_order c = grind (arith, common_steps)

pub returns-in-Six-clause-at_most_doubled : goal.returns-in-Six-clause-at_most_doubled
returns-in-Six-clause-at_most_doubled c = grind (arith, common_steps)

pub returns-in-Six-clause-in_order : goal.returns-in-Six-clause-in_order
returns-in-Six-clause-in_order c = grind (arith, common_steps)

pub returns-in-Eight-clause-in_order : goal.returns-in-Eight-clause-in_order
returns-in-Eight-clause-in_order c = grind (arith, common_steps)

pub returns-in-Ten-clause-in_order : goal.returns-in-Ten-clause-in_order
returns-in-Ten-clause-in_order c = grind (arith, common_steps)
