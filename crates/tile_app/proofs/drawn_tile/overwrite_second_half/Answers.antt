use Rattle.std.proofs.Common.{◌++◌, ap, ap₂, ◌∙◌, map, arith}
use Rattle.std.proofs.lemmas.List.Elements.{All-append}
use Rattle.cyclo_points.specs.Motion.{motion_in}
use Rattle.cyclo_points.specs.Order.{points_of}
use Rattle.half_glue.specs.Outline.{begun_behind, inner_of}
use Rattle.layer_api.specs.Drawable.{IsNear}
use Rattle.rule_model.specs.Views.{rule_of}
use Rattle.theory_substitution.specs.Motion.{moved}
use Rattle.theory_substitution.specs.RuleParts.{vertices_of}
use Rattle.tile_app.specs.DrawnTile.{point_of_number}
use Rattle.tile_app.proofs.Prototiles.{its-vertices, each-its-vertex}
use Rattle.tile_app.proofs.Outlines.{second-is, last-is}
use Rattle.tile_app.proofs.drawn_tile.overwrite_second_half.Goals as goal

pub returns-then-count-edge-clause-placed : goal.returns-then-count-edge-clause-placed
returns-then-count-edge-clause-placed c =
    let m = c.args.machine.now in
    let x = c.args.half.now in
    let vs = c.vertices-each_edge.result.now in
    let each = each-its-vertex m x.kind vs (its-vertices m c.checked.result.now x.kind vs c.checked.ensures.rule
    c.vertices-each_edge.ensures.numbers c.vertices-each_edge.ensures.each_edge c.vertices-each_edge.ensures.small) in
    let all = c.requires.as_many in
    let exists = c.of-edge.ensures.exists in
    c.overwrite.ensures.placed
    ∙ last-is (point_of_number m.order) (moved (points_of m.order) (motion_in m.order x.motion)) (vertices_of (rule_of m) x.kind)
    c.of-edge.result _ (omega (arith, all, each)) (omega (arith, all, each, exists, c.if-count-edge.true))
    ∙ ap (λ k. map (point_of_number m.order) (inner_of (begun_behind k (map (moved (points_of m.order) (motion_in m.order x.motion))
    (vertices_of (rule_of m) x.kind))))) c.of-edge.ensures.edge

pub returns-clause-near : goal.returns-clause-near
returns-clause-near c = All-append (IsNear c.args.machine.now.order) c.overwrite-2.new.points c.overwrite-3.new.points
    c.overwrite-2.ensures.near c.overwrite-3.ensures.near

pub returns-clause-placed : goal.returns-clause-placed
returns-clause-placed c =
    let m = c.args.machine.now in
    let x = c.args.half.now in
    let split = c.split_at_mut-behind.ensures in
    let vs = c.vertices-each_edge.result.now in
    let each = each-its-vertex m x.kind vs (its-vertices m c.checked.result.now x.kind vs c.checked.ensures.rule
    c.vertices-each_edge.ensures.numbers c.vertices-each_edge.ensures.each_edge c.vertices-each_edge.ensures.small) in
    let all = c.requires.as_many in
    let more = c.if-count-edge.false in
    ap₂ (λ xs ys. xs ++ ys) c.overwrite-2.ensures.placed c.overwrite-3.ensures.placed
    ∙ second-is (point_of_number m.order) (moved (points_of m.order) (motion_in m.order x.motion)) (vertices_of (rule_of m) x.kind)
    c.of-edge.result _ _
    (omega (arith, all, each, more, split.front_len)) (omega (arith, all, each, more, split.back_len))
    ∙ ap (λ k. map (point_of_number m.order) (inner_of (begun_behind k (map (moved (points_of m.order) (motion_in m.order x.motion))
    (vertices_of (rule_of m) x.kind))))) c.of-edge.ensures.edge
