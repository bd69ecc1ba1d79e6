use Rattle.std.proofs.Common.{◌≡◌, ap, ◌∙◌, subst}
use Rattle.cyclo_points.specs.Order.{PointsLaw, points_of}
use Rattle.theory_dissection.specs.Laws.{AcrossLaw, BoundaryLaw, CrossingLaw}
use Rattle.rule_model.specs.declared.rule.Rule.{Rule}
use Rattle.rule_model.specs.Tiling.{tiling_of, children}
use Rattle.tile_shape.specs.Usable.{AreUsable}
use Rattle.theory_windows.specs.FrameSearch.{KnownLaw}
use Rattle.half_glue.proofs.glue_laws.glue_laws.Goals as goal

pub returns : goal.returns
returns c =
    let m = c.args.machine.now in
    let same : c.order-order.result ≡ m.order = c.order-order.ensures.order ∙ ap (λ (r : Rule). r.order) c.checked-checked.ensures.rule in
    let usable : AreUsable (children (tiling_of m)) = subst AreUsable
    (c.uses.ensures ∙ ap (λ (r : Rule). children (tiling_of r)) c.checked-checked.ensures.rule)
    c.kinds-usable.ensures.limits in
    record {
      accepted = c.checked-checked.ensures.accepted;
      usable = c.checked-checked.ensures.usable;
      uses_usable = usable;
      same_child_kinds = c.checked-checked.ensures.same_child_kinds;
      still_fits = λ base start n h. c.grown_fits_law.ensures (children (tiling_of m)) base start n usable h;
      points = subst PointsLaw same c.points_law.ensures;
      across = subst (λ o. AcrossLaw (points_of o)) same c.across_law.ensures;
      boundary = subst (λ o. BoundaryLaw (points_of o)) same c.boundary_law.ensures;
      crossing = subst (λ o. CrossingLaw (points_of o)) same c.crossing_law.ensures;
      known = subst (λ o. KnownLaw (points_of o)) same c.frame_name_law.ensures.known;
    }
