use Rattle.std.proofs.Common.{refl, subst}
use Rattle.rule_model.specs.declared.rule.Rule.{Rule}
use Rattle.rule_model.specs.Tiling.{tiling_of}
use Rattle.half_glue.specs.WholeTiles.{HasNoGlueEdge}
use Rattle.half_glue.proofs.glue_side.glue_side.Goals as goal

pub returns-in-None : goal.returns-in-None
returns-in-None c = subst (λ (r : Rule). HasNoGlueEdge (tiling_of r) c.args.kind) c.checked.ensures.rule (c.in-None.ensures.none.0 refl)
