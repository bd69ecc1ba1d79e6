use Rattle.std.proofs.Common.{subst}
use Rattle.rule_model.specs.Tiling.{tiling_of}
use Rattle.tiling_c.specs.Locate.{GivesTile, RefusesPoint}
use Rattle.tiling_c.proofs.PointShown.{shows_located, shows_not_located}
use Rattle.tiling_c.proofs.locate.tiling_locate.Goals as goal

pub returns-in-Ok-clause-shown : goal.returns-in-Ok-clause-shown
returns-in-Ok-clause-shown c = shows_located _ c.args.top.now c.args.depth c.args.point.now c.placed.result c.write.new.self c.in-Ok.found
    (subst (λ r. GivesTile (tiling_of r) c.args.top.now c.args.depth c.args.point.now c.in-Ok.found) c.get.ensures c.in-Ok.ensures.given)
    c.placed.ensures c.write.ensures

pub returns-in-Err-clause-shown : goal.returns-in-Err-clause-shown
returns-in-Err-clause-shown c = shows_not_located _ c.args.top.now c.args.depth c.args.point.now c.args.tile.now c.args.addr.now c.in-Err.status
    (subst (λ r. RefusesPoint (tiling_of r) c.args.top.now c.args.depth c.args.point.now c.in-Err.status) c.get.ensures c.in-Err.ensures.refused)
