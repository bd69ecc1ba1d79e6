use Rattle.std.proofs.Common.{◌≡◌, ◌∙◌, ap, sym, arith}
use Rattle.theory_ring.specs.Ring.{integers}
use Rattle.cyclo_points.specs.Point.{pair_of}
use Rattle.cyclo_points.proofs.Readings.{machine_pair-is}
use Rattle.cyclo_points.proofs.FourTurns.{turned_by, none-is, table_1-is, code_1-is}
use Rattle.cyclo_points.proofs.rotation.turn_four.Goals as goal

pub returns-in-0-clause-turned : goal.returns-in-0-clause-turned
returns-in-0-clause-turned c =
    machine_pair-is c.args.p.now c.requires.p_within ∙ none-is (pair_of c.args.p.now)
    ∙ ap (λ k. turned_by integers k (pair_of c.args.p.now)) (sym c.in-0.is)

pub returns-in_default-clause-turned : goal.returns-in_default-clause-turned
returns-in_default-clause-turned c =
    let last : c.args.k ≡ 1 = omega arith in
    code_1-is c.args.p.now c.requires.p_within ∙ table_1-is (pair_of c.args.p.now)
    ∙ ap (λ k. turned_by integers k (pair_of c.args.p.now)) (sym last)
