use Rattle.std.proofs.Common.{◌≡◌, ◌+◌, ◌<◌, ◌≤◌, [], All, drop, map, take, length, set, pos, sym, ap, ◌∙◌, subst, arith, rules, take_all}
use Rattle.std.proofs.lemmas.List.{get_or-drop, length-drop, length-set, take_more_set}
use Rattle.std.proofs.lemmas.List.Elements.{All-push}
use Rattle.cyclo_points.specs.declared.point.Point.{Point}
use Rattle.cyclo_points.specs.Motion.{motion_in}
use Rattle.cyclo_points.specs.Order.{NumberOf, points_of}
use Rattle.layer_api.specs.Drawable.{IsNear}
use Rattle.rule_model.specs.Tiling.{tiling_of}
use Rattle.rule_model.specs.Views.{rule_of}
use Rattle.theory_substitution.specs.Motion.{moved}
use Rattle.theory_substitution.specs.RuleParts.{vertices_of}
use Rattle.tile_app.specs.DrawnTile.{point_of_number}
use Rattle.tile_app.proofs.Placed.{corner_placed, one_more_of}
use Rattle.tile_app.proofs.Prototiles.{its-vertices, as-many}
use Rattle.tile_app.proofs.drawn_tile.overwrite.Goals as goal

pub loop-number-preserved : goal.loop-number-preserved
loop-number-preserved c =
    let m = c.args.machine.now in
    let x = c.args.part.now in
    let vs = c.vertices-each_edge.result.now in
    let h = its-vertices m c.checked.result.now x.kind vs c.checked.ensures.rule
    c.vertices-each_edge.ensures.numbers c.vertices-each_edge.ensures.each_edge
    c.vertices-each_edge.ensures.small in
    let ns = vertices_of (rule_of m) x.kind in
    let first = c.args.first in
    let xs = c.loop-number.points in
    let i = c.loop-number.number in
    let p = c.corner.result in
    let four : length p.c ≡ 4 = search rules in
    let zero_point = (points_of m.order).ring.int (pos 0) in
    let many = c.loop-number.invariant.as_many in
    let inside : i < length xs = omega (arith, many, c.loop-number-test.true) in
    let long = length-drop first ns in
    let below : i < length (drop first ns) = omega
    (arith, long, c.loop-number-test.true, c.requires.there, as-many m x.kind vs h, h.each_edge) in
    let F : NumberOf m.order → Point = λ z. point_of_number m.order (moved (points_of m.order) (motion_in m.order x.motion) z) in
    record {
      as_many = length-set xs i p ∙ many;
      near = rw (take_more_set xs i p inside) (All-push (IsNear m.order) (take i xs) p
          c.loop-number.invariant.near (record {
            of_order = c.corner.ensures.in_order;
            within = c.corner.ensures.within;
          }));
      placed = one_more_of F (drop first ns) [] (take i xs) (take (i + 1) (set xs i p)) i p zero_point
          c.loop-number.invariant.placed (take_more_set xs i p inside) below
          (corner_placed (tiling_of m) x.kind x.motion (first + i) p four c.corner.ensures
          ∙ ap F (sym (get_or-drop first ns i zero_point)));
    }

pub returns-clause-placed : goal.returns-clause-placed
returns-clause-placed c =
    let m = c.args.machine.now in
    let x = c.args.part.now in
    let ns = vertices_of (rule_of m) x.kind in
    let i = c.loop-number.number in
    let F : NumberOf m.order → Point = λ z. point_of_number m.order (moved (points_of m.order) (motion_in m.order x.motion) z) in
    let ended : length c.loop-number.points ≤ i = omega (arith, c.loop-number-test.false, c.loop-number.invariant.as_many) in
    let all : i ≡ length c.args.points.now = omega (arith, c.loop-number-test.false, c.loop-number.auto.number-end) in
    sym (take_all i c.loop-number.points ended) ∙ c.loop-number.invariant.placed
    ∙ ap (λ k. map F (take k (drop c.args.first ns))) all

pub returns-clause-near : goal.returns-clause-near
returns-clause-near c =
    let ended : length c.loop-number.points ≤ c.loop-number.number = omega (arith, c.loop-number-test.false, c.loop-number.invariant.as_many) in
    subst (All (IsNear c.args.machine.now.order)) (take_all c.loop-number.number c.loop-number.points ended) c.loop-number.invariant.near
