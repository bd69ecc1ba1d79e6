use Rattle.std.proofs.Common.{subst}
use Rattle.rule_model.specs.Tiling.{tiling_of}
use Rattle.tiling_c.specs.Star.{HoldsCorners, GivesStar, RefusesStar}
use Rattle.tiling_c.proofs.StarShown.{shows_star, shows_refusal}
use Rattle.tiling_c.proofs.star.tiling_star.Goals as goal

pub returns-in-Ok-clause-shown : goal.returns-in-Ok-clause-shown
returns-in-Ok-clause-shown c = shows_star _ c.args.frame.now c.args.vertex c.args.out.now c.put_corners.new.out c.in-Ok.found.corners.items
    (subst (λ r. GivesStar (tiling_of r) c.args.frame.now c.args.vertex c.in-Ok.found.corners.items) c.get.ensures c.in-Ok.ensures.given)
    (subst (λ cs. HoldsCorners cs c.args.out.now c.put_corners.new.out) c.as_slice.ensures.value c.put_corners.ensures)

pub returns-in-Err-clause-shown : goal.returns-in-Err-clause-shown
returns-in-Err-clause-shown c = shows_refusal _ c.args.frame.now c.args.vertex c.args.out.now c.in-Err.status
    (subst (λ r. RefusesStar (tiling_of r) c.args.frame.now c.args.vertex c.in-Err.status) c.get.ensures c.in-Err.ensures.refused)
