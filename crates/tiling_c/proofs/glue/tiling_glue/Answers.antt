use Rattle.std.proofs.Common.{subst}
use Rattle.rule_model.specs.Tiling.{tiling_of}
use Rattle.tiling_c.specs.Glue.{GivesWholes, RefusesWholes}
use Rattle.tiling_c.proofs.GlueShown.{shows_wholes, shows_refusal}
use Rattle.tiling_c.proofs.glue.tiling_glue.Goals as goal

pub returns-in-Ok-clause-shown : goal.returns-in-Ok-clause-shown
returns-in-Ok-clause-shown c = shows_wholes _ c.args.frame.now c.args.window.now c.args.wholes.now c.put_wholes.new.wholes c.in-Ok.glued c.len.result
    (subst (λ r. GivesWholes (tiling_of r) c.args.frame.now c.args.window.now c.in-Ok.glued) c.get.ensures c.in-Ok.ensures.given)
    c.put_wholes.ensures c.len.ensures

pub returns-in-Err-clause-shown : goal.returns-in-Err-clause-shown
returns-in-Err-clause-shown c = shows_refusal _ c.args.frame.now c.args.window.now c.args.wholes.now c.args.count.now c.in-Err.status
    (subst (λ r. RefusesWholes (tiling_of r) c.args.frame.now c.args.window.now c.in-Err.status) c.get.ensures c.in-Err.ensures.refused)
