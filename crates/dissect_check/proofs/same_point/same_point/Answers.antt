use Rattle.std.proofs.Common.{◌≡◌, length, arith, ◌∙◌}
use Rattle.dissect_check.proofs.SamePoint.{same-points}
use Rattle.dissect_check.proofs.same_point.same_point.Goals as goal

pub returns : goal.returns
returns c = λ o f g.
    let l : length c.args.p.now.c ≡ 4 = omega arith in
    let m : length c.args.q.now.c ≡ 4 = omega arith in
    c.eq.ensures ∙ same-points o c.args.p.now c.args.q.now l m f g
