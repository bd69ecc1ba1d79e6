use Rattle.std.proofs.Common.{◌≡◌, ◌^◌, All, List, sym, ap, ◌∙◌, subst, lit≤}
use Rattle.std.specs.List.{AllByRecursion}
use Rattle.cyclo_points.specs.declared.point.Point.{Point}
use Rattle.cyclo_points.specs.Point.{IsWithin}
use Rattle.cyclo_points.proofs.Within.{point_wider}
use Rattle.plane_geom.specs.Spots.{spot_of}
use Rattle.rule_model.specs.declared.rule.Rule.{Rule}
use Rattle.window_descent.specs.Bounds.{AreBounds, IsEnclosed}
use Rattle.window_descent.specs.declared.bounds.Bounds.{Bounds}
use Rattle.window_descent.proofs.PartBounds.{bounds-read}
use Rattle.window_descent.proofs.RowsMade.{if_some-each}
use Rattle.window_descent.proofs.row_bounds.bounds_of.Goals as goal

pub of-requires : goal.of-requires
of-requires c = record {
  within = λ k d h. point_wider (2 ^ 24) (2 ^ 25) _ (lit≤ tt)
      ((subst (λ (ps : List Point). All (IsWithin (2 ^ 24)) ps) (sym c.as_slice.ensures.value) c.in-Ok.ensures.within) k d h);
}

pub returns-in-Ok : goal.returns-in-Ok
returns-in-Ok c =
    let m = c.args.machine.now in
    let o = c.order.result in
    let same : o ≡ m.order = c.order.ensures.order ∙ ap (λ (r : Rule). r.order) c.checked.ensures.rule in
    if_some-each (λ (b : Bounds). AllByRecursion (λ p. IsEnclosed o b (spot_of o p)) c.as_slice.result.now)
    (AreBounds m c.args.scale.now c.args.row.kind c.args.row.turn)
    (λ b h. bounds-read m o same c.args.scale.now c.args.row.kind c.args.row.turn c.in-Ok.corners.items c.in-Ok.ensures.vertices b
    (subst (λ (ps : List Point). AllByRecursion (λ p. IsEnclosed o b (spot_of o p)) ps) c.as_slice.ensures.value h)) c.of.result c.of.ensures
