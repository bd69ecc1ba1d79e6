use Rattle.std.proofs.Common.{pos, ◌*◌, subst, sym, refl, arith}
use Rattle.std.proofs.lemmas.Grind.{common_steps}
use Rattle.theory_ring.specs.Ring.{integers}
use Rattle.cyclo_points.specs.Six.{conj_six}
use Rattle.cyclo_points.specs.Eight.{conj_eight}
use Rattle.cyclo_points.specs.Ten.{conj_ten}
use Rattle.cyclo_points.specs.Point.{coefficient, quad_of, pair_of}
use Rattle.cyclo_points.proofs.Identities.{pair_path}
use Rattle.cyclo_points.proofs.Readings.{point_of, machine, machine-is, machine_negative, machine_negative-small}
use Rattle.cyclo_points.proofs.Sizes.{quad_within, within_quad}
use Rattle.cyclo_points.proofs.PairSizes.{within_pair}
use Rattle.cyclo_points.proofs.CoordinateReadings.{IsConjugate, conjugate_six, conjugate_six-is, conj_six-doubles, conjugate_eight, conjugate_eight-is, conj_eight-doubles, conjugate_ten, conjugate_ten-is, conj_ten-doubles}
use Rattle.cyclo_points.proofs.coordinates.conj.Goals as goal

pub returns-in-Four-clause-conjugate : goal.returns-in-Four-clause-conjugate
returns-in-Four-clause-conjugate c =
    let p = c.args.p.now in
    let h = c.requires.p_within in
    subst (λ o. IsConjugate o p (point_of (machine (coefficient p 0)) (machine_negative (coefficient p 1)) (pos 0) (pos 0))) (sym c.in-Four.is)
    (pair_path _ _ (machine-is _ h.at_0) (machine_negative-small _ h.at_1))

pub returns-in-Six-clause-conjugate : goal.returns-in-Six-clause-conjugate
returns-in-Six-clause-conjugate c =
    subst (λ o. IsConjugate o c.args.p.now (conjugate_six c.args.p.now)) (sym c.in-Six.is) (conjugate_six-is c.args.p.now c.requires.p_within)

pub returns-in-Six-clause-at_most_doubled : goal.returns-in-Six-clause-at_most_doubled
returns-in-Six-clause-at_most_doubled c =
    λ m h. within_pair (2 * m) (conjugate_six c.args.p.now) (conj_six integers (pair_of c.args.p.now))
    (conjugate_six-is c.args.p.now c.requires.p_within) refl refl
    (conj_six-doubles m c.args.p.now h)

pub returns-in-Eight-clause-conjugate : goal.returns-in-Eight-clause-conjugate
returns-in-Eight-clause-conjugate c =
    subst (λ o. IsConjugate o c.args.p.now (conjugate_eight c.args.p.now)) (sym c.in-Eight.is) (conjugate_eight-is c.args.p.now c.requires.p_within)

pub returns-in-Eight-clause-at_most_doubled : goal.returns-in-Eight-clause-at_most_doubled
returns-in-Eight-clause-at_most_doubled c =
    λ m h. within_quad (2 * m) (conjugate_eight c.args.p.now) (conj_eight integers (quad_of c.args.p.now))
    (conjugate_eight-is c.args.p.now c.requires.p_within)
    (conj_eight-doubles m (quad_of c.args.p.now) (quad_within m c.args.p.now h))

pub returns-in-Ten-clause-conjugate : goal.returns-in-Ten-clause-conjugate
returns-in-Ten-clause-conjugate c =
    subst (λ o. IsConjugate o c.args.p.now (conjugate_ten c.args.p.now)) (sym c.in-Ten.is) (conjugate_ten-is c.args.p.now c.requires.p_within)

pub returns-in-Ten-clause-at_most_doubled : goal.returns-in-Ten-clause-at_most_doubled
returns-in-Ten-clause-at_most_doubled c =
    λ m h. within_quad (2 * m) (conjugate_ten c.args.p.now) (conj_ten integers (quad_of c.args.p.now))
    (conjugate_ten-is c.args.p.now c.requires.p_within)
    (conj_ten-doubles m (quad_of c.args.p.now) (quad_within m c.args.p.now h))

pub returns-in-Four-clause-in_order : goal.returns-in-Four-clause-in_order
returns-in-Four-clause-in_order c = grind (arith, common_steps)

pub returns-in-Six-clause-in_order : goal.returns-in-Six-clause-in_order
returns-in-Six-clause-in_order c = grind (arith, common_steps)

pub returns-in-Eight-clause-in_order : goal.returns-in-Eight-clause-in_order
returns-in-Eight-clause-in_order c = grind (arith, common_steps)

pub returns-in-Ten-clause-in_order : goal.returns-in-Ten-clause-in_order
returns-in-Ten-clause-in_order c = grind (arith, common_steps)
