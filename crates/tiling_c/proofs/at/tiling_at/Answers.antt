use Rattle.std.proofs.Common.{subst}
use Rattle.rule_model.specs.Tiling.{tiling_of}
use Rattle.tiling_c.specs.At.{GivesHolder, RefusesHolder}
use Rattle.tiling_c.proofs.PointShown.{shows_holder, shows_no_holder}
use Rattle.tiling_c.proofs.at.tiling_at.Goals as goal

pub returns-in-Ok-clause-shown : goal.returns-in-Ok-clause-shown
returns-in-Ok-clause-shown c = shows_holder _ c.args.frame.now c.args.point.now c.placed.result c.write.new.self c.in-Ok.found
    (subst (λ r. GivesHolder (tiling_of r) c.args.frame.now c.args.point.now c.in-Ok.found) c.get.ensures c.in-Ok.ensures.given)
    c.placed.ensures c.write.ensures

pub returns-in-Err-clause-shown : goal.returns-in-Err-clause-shown
returns-in-Err-clause-shown c = shows_no_holder _ c.args.frame.now c.args.point.now c.args.tile.now c.args.addr.now c.in-Err.status
    (subst (λ r. RefusesHolder (tiling_of r) c.args.frame.now c.args.point.now c.in-Err.status) c.get.ensures c.in-Err.ensures.refused)
