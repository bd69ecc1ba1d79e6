use Rattle.std.proofs.Common.{◌*◌, ◌^◌, arith}
use Rattle.cyclo_points.proofs.Within.{point_wider}
use Rattle.dissect_check.proofs.factor.squared_length.Goals as goal

pub mul-requires-clause-p_within : goal.mul-requires-clause-p_within
mul-requires-clause-p_within c = point_wider 64 (2 ^ 32) c.args.p.now (omega arith) c.requires.small.within

pub returns-clause-within : goal.returns-clause-within
returns-clause-within c =
    let small = c.requires.small.within in
    point_wider (8 * 64 * (2 * 64)) (2 ^ 16) c.mul.result (omega arith)
    (c.mul.ensures.bounded 64 (2 * 64) small (c.conj.ensures.at_most_doubled 64 small))
