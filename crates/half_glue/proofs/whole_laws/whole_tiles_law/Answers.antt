use Rattle.std.proofs.Common.{◌≡◌, ap, ◌∙◌, subst}
use Rattle.cyclo_points.specs.Order.{points_of}
use Rattle.cyclo_points.specs.declared.order.Order.{Order}
use Rattle.rule_model.specs.declared.rule.Rule.{Rule}
use Rattle.rule_model.specs.Tiling.{tiling_of}
use Rattle.theory_windows.specs.FrameLaws.{FramePatchLaw}
use Rattle.theory_windows.specs.Laws.{RotationLaw, OutlineGluingLaw, WholesLaw}
use Rattle.half_glue.specs.Checked.{HasGlueLaws}
use Rattle.half_glue.specs.Outline.{WholesCountLaw}
use Rattle.half_glue.proofs.CoveredByWholes.{covered}
use Rattle.half_glue.proofs.FirstGlueEdge.{glue-edge-is}
use Rattle.half_glue.proofs.GluedHalves.{counts}
use Rattle.half_glue.proofs.PartsOnce.{parts-once}
use Rattle.half_glue.proofs.whole_laws.whole_tiles_law.Goals as goal

-- the laws of the machine's order
at_order : (m : Rule) (o : Order) → o ≡ m.order → HasGlueLaws m → RotationLaw (points_of o)
    → OutlineGluingLaw (points_of o) → WholesCountLaw (tiling_of m)
at_order m o same L rotation gluing = counts m L (subst (λ o. RotationLaw (points_of o)) same rotation)
    (subst (λ o. OutlineGluingLaw (points_of o)) same gluing)

pub returns-clause-glue_edge : goal.returns-clause-glue_edge
returns-clause-glue_edge c kind e only = glue-edge-is (tiling_of c.args.machine.now).rule kind e only

pub returns-clause-counts : goal.returns-clause-counts
returns-clause-counts c =
    let m = c.args.machine.now in
    at_order m c.order-order.result (c.order-order.ensures.order
    ∙ ap (λ (r : Rule). r.order) c.checked.ensures.rule) c.glue_laws.ensures c.gluing_law.ensures.rotation
    c.gluing_law.ensures.gluing

pub returns-clause-once : goal.returns-clause-once
returns-clause-once c = parts-once (tiling_of c.args.machine.now)

pub returns-clause-covering : goal.returns-clause-covering
returns-clause-covering c =
    let m = c.args.machine.now in
    let same : c.order-order.result ≡ m.order = c.order-order.ensures.order ∙ ap (λ (r : Rule). r.order) c.checked.ensures.rule in
    covered m c.glue_laws.ensures (at_order m c.order-order.result same c.glue_laws.ensures c.gluing_law.ensures.rotation c.gluing_law.ensures.gluing)
    (subst (λ o. WholesLaw (points_of o)) same c.gluing_law.ensures.covering)
    (subst (λ o. FramePatchLaw (points_of o)) same c.frame_patch_law.ensures.dissected)
