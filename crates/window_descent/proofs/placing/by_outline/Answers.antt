use Rattle.std.proofs.Common.{◌≡◌, ◌<◌, List, sym, ap, ◌∙◌, subst, arith}
use Rattle.cyclo_points.specs.declared.point.Point.{Point}
use Rattle.plane_geom.specs.Spots.{reals_of, spots_of}
use Rattle.rule_model.specs.declared.rule.Rule.{Rule}
use Rattle.rule_model.specs.Tiling.{tiling_of}
use Rattle.tile_place.proofs.Plane.{IsSettled}
use Rattle.theory_descents.specs.MeetingTest.{polygon_meets}
use Rattle.window_descent.specs.Parts.{IsPlacedBy}
use Rattle.window_descent.specs.Standing.{window_box, IsStanding}
use Rattle.window_descent.proofs.Placings.{placed-met, placed-beside}
use Rattle.window_descent.proofs.placing.by_outline.Goals as goal

pub returns-then-level-eq0 : goal.returns-then-level-eq0
returns-then-level-eq0 c =
    let m = c.args.machine.now in
    let w = c.args.window.now in
    let o = c.order-order.result in
    let same : o ≡ m.order = c.order-order.ensures.order ∙ ap (λ (r : Rule). r.order) c.checked.ensures.rule in
    let settled : IsSettled m = record {
      accepted = c.checked.ensures.accepted;
      usable = c.checked.ensures.usable;
      same_child_kinds = c.checked.ensures.same_child_kinds;
    } in
    record {
      placed = subst (IsPlacedBy (tiling_of m) w c.args.level c.args.part.now) (sym c.met.ensures)
          (placed-met m settled o same w c.args.level c.args.part.now c.requires.part c.requires.window.some_width
          c.requires.window.some_height c.in-Ok.corners.items c.args.scale.now c.requires.scale_is
          c.in-Ok.ensures.vertices
          c.meets.result c.if-level-eq0.true (c.meets.ensures ∙ ap (λ (ps : List Point). polygon_meets (reals_of o) (window_box o w)
          (spots_of o ps)) c.as_slice.ensures.value));
    }

pub returns-else-level-eq0 : goal.returns-else-level-eq0
returns-else-level-eq0 c =
    let m = c.args.machine.now in
    let w = c.args.window.now in
    let o = c.order-order.result in
    let same : o ≡ m.order = c.order-order.ensures.order ∙ ap (λ (r : Rule). r.order) c.checked.ensures.rule in
    let settled : IsSettled m = record {
      accepted = c.checked.ensures.accepted;
      usable = c.checked.ensures.usable;
      same_child_kinds = c.checked.ensures.same_child_kinds;
    } in
    let deep = c.if-level-eq0.false in
    let some : 0 < c.args.level = omega arith in
    record {
      placed = placed-beside m settled o same w c.args.level c.args.part.now c.requires.part
          c.requires.window.some_width c.requires.window.some_height c.in-Ok.corners.items c.args.scale.now
          c.requires.scale_is c.in-Ok.ensures.vertices
          c.beside.result (subst (λ
          (ps : List Point). IsStanding o w ps c.beside.result) c.as_slice-else-level-eq0.ensures.value c.beside.ensures) some;
    }
