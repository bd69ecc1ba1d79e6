use Rattle.std.proofs.Common.{subst}
use Rattle.rule_model.specs.Tiling.{tiling_of}
use Rattle.tiling_c.specs.Placing.{GivesPlace, RefusesPlace}
use Rattle.tiling_c.proofs.PlaceShown.{shows_place, shows_no_place}
use Rattle.tiling_c.proofs.placing.tiling_place.Goals as goal

pub returns-in-Ok-clause-shown : goal.returns-in-Ok-clause-shown
returns-in-Ok-clause-shown c = shows_place _ c.args.addr.now c.in-Ok.motion c.placed.result
    (subst (λ r. GivesPlace (tiling_of r) c.args.addr.now c.in-Ok.motion) c.get.ensures c.in-Ok.ensures.given) c.placed.ensures

pub returns-in-Err-clause-shown : goal.returns-in-Err-clause-shown
returns-in-Err-clause-shown c = shows_no_place _ c.args.addr.now c.args.out.now c.in-Err.status
    (subst (λ r. RefusesPlace (tiling_of r) c.args.addr.now c.in-Err.status) c.get.ensures c.in-Err.ensures.refused)
