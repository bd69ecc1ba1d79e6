use Rattle.std.proofs.Common.{◌≡◌, ◌*◌, ◌∙◌, ap, sym, refl, arith}
use Rattle.theory_ring.specs.Ring.{integers}
use Rattle.cyclo_points.specs.Point.{pair_of}
use Rattle.cyclo_points.proofs.Readings.{machine_pair-is}
use Rattle.cyclo_points.proofs.PairSizes.{within_pair}
use Rattle.cyclo_points.proofs.SixTurns.{turned_by, none-is, table_1, table_1-is, code_1, code_1-is, table_1-doubles, table_2, table_2-is, code_2, code_2-is, table_2-doubles}
use Rattle.cyclo_points.proofs.rotation.turn_six.Goals as goal

pub returns-in-0-clause-turned : goal.returns-in-0-clause-turned
returns-in-0-clause-turned c =
    machine_pair-is c.args.p.now c.requires.p_within ∙ none-is (pair_of c.args.p.now)
    ∙ ap (λ k. turned_by integers k (pair_of c.args.p.now)) (sym c.in-0.is)

pub returns-in-1-clause-turned : goal.returns-in-1-clause-turned
returns-in-1-clause-turned c =
    code_1-is c.args.p.now c.requires.p_within ∙ table_1-is (pair_of c.args.p.now)
    ∙ ap (λ k. turned_by integers k (pair_of c.args.p.now)) (sym c.in-1.is)

pub returns-in-1-clause-at_most_doubled : goal.returns-in-1-clause-at_most_doubled
returns-in-1-clause-at_most_doubled c =
    λ m h. within_pair (2 * m) (code_1 c.args.p.now) (table_1 integers (pair_of c.args.p.now)) (code_1-is c.args.p.now c.requires.p_within) refl refl
    (table_1-doubles m c.args.p.now h)

pub returns-in_default-clause-turned : goal.returns-in_default-clause-turned
returns-in_default-clause-turned c =
    let last : c.args.k ≡ 2 = omega arith in
    code_2-is c.args.p.now c.requires.p_within ∙ table_2-is (pair_of c.args.p.now)
    ∙ ap (λ k. turned_by integers k (pair_of c.args.p.now)) (sym last)

pub returns-in_default-clause-at_most_doubled : goal.returns-in_default-clause-at_most_doubled
returns-in_default-clause-at_most_doubled c =
    λ m h. within_pair (2 * m) (code_2 c.args.p.now) (table_2 integers (pair_of c.args.p.now)) (code_2-is c.args.p.now c.requires.p_within) refl refl
    (table_2-doubles m c.args.p.now h)
