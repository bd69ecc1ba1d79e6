use Rattle.std.proofs.Common.{◌≡◌, ◌*◌, ◌∙◌, ap, sym, arith}
use Rattle.theory_ring.specs.Ring.{integers}
use Rattle.cyclo_points.specs.Point.{quad_of}
use Rattle.cyclo_points.proofs.Sizes.{quad_within, within_quad}
use Rattle.cyclo_points.proofs.TenTurns.{turned_by, none-is, table_1, table_1-is, code_1, code_1-is, table_1-doubles, table_2, table_2-is, code_2, code_2-is, table_2-doubles, table_3, table_3-is, code_3, code_3-is, table_3-doubles, table_4, table_4-is, code_4, code_4-is, table_4-doubles}
use Rattle.cyclo_points.proofs.rotation.turn_ten.Goals as goal

pub returns-in-0-clause-turned : goal.returns-in-0-clause-turned
returns-in-0-clause-turned c = none-is (quad_of c.args.p.now) ∙ ap (λ k. turned_by integers k (quad_of c.args.p.now)) (sym c.in-0.is)

pub returns-in-1-clause-turned : goal.returns-in-1-clause-turned
returns-in-1-clause-turned c =
    code_1-is c.args.p.now c.requires.p_within ∙ table_1-is (quad_of c.args.p.now)
    ∙ ap (λ k. turned_by integers k (quad_of c.args.p.now)) (sym c.in-1.is)

pub returns-in-1-clause-at_most_doubled : goal.returns-in-1-clause-at_most_doubled
returns-in-1-clause-at_most_doubled c =
    λ m h. within_quad (2 * m) (code_1 c.args.p.now) (table_1 integers (quad_of c.args.p.now)) (code_1-is c.args.p.now c.requires.p_within)
    (table_1-doubles m (quad_of c.args.p.now) (quad_within m c.args.p.now h))

pub returns-in-2-clause-turned : goal.returns-in-2-clause-turned
returns-in-2-clause-turned c =
    code_2-is c.args.p.now c.requires.p_within ∙ table_2-is (quad_of c.args.p.now)
    ∙ ap (λ k. turned_by integers k (quad_of c.args.p.now)) (sym c.in-2.is)

pub returns-in-2-clause-at_most_doubled : goal.returns-in-2-clause-at_most_doubled
returns-in-2-clause-at_most_doubled c =
    λ m h. within_quad (2 * m) (code_2 c.args.p.now) (table_2 integers (quad_of c.args.p.now)) (code_2-is c.args.p.now c.requires.p_within)
    (table_2-doubles m (quad_of c.args.p.now) (quad_within m c.args.p.now h))

pub returns-in-3-clause-turned : goal.returns-in-3-clause-turned
returns-in-3-clause-turned c =
    code_3-is c.args.p.now c.requires.p_within ∙ table_3-is (quad_of c.args.p.now)
    ∙ ap (λ k. turned_by integers k (quad_of c.args.p.now)) (sym c.in-3.is)

pub returns-in-3-clause-at_most_doubled : goal.returns-in-3-clause-at_most_doubled
returns-in-3-clause-at_most_doubled c =
    λ m h. within_quad (2 * m) (code_3 c.args.p.now) (table_3 integers (quad_of c.args.p.now)) (code_3-is c.args.p.now c.requires.p_within)
    (table_3-doubles m (quad_of c.args.p.now) (quad_within m c.args.p.now h))

pub returns-in_default-clause-turned : goal.returns-in_default-clause-turned
returns-in_default-clause-turned c =
    let last : c.args.k ≡ 4 = omega arith in
    code_4-is c.args.p.now c.requires.p_within ∙ table_4-is (quad_of c.args.p.now)
    ∙ ap (λ k. turned_by integers k (quad_of c.args.p.now)) (sym last)

pub returns-in_default-clause-at_most_doubled : goal.returns-in_default-clause-at_most_doubled
returns-in_default-clause-at_most_doubled c =
    λ m h. within_quad (2 * m) (code_4 c.args.p.now) (table_4 integers (quad_of c.args.p.now)) (code_4-is c.args.p.now c.requires.p_within)
    (table_4-doubles m (quad_of c.args.p.now) (quad_within m c.args.p.now h))
