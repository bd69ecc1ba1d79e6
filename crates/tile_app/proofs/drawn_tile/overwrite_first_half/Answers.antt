use Rattle.std.proofs.Common.{◌++◌, ap, ap₂, ◌∙◌, map, arith}
use Rattle.cyclo_points.specs.Motion.{motion_in}
use Rattle.cyclo_points.specs.Order.{points_of}
use Rattle.half_glue.specs.Outline.{begun_behind}
use Rattle.rule_model.specs.Views.{rule_of}
use Rattle.theory_substitution.specs.Motion.{moved}
use Rattle.theory_substitution.specs.RuleParts.{vertices_of}
use Rattle.tile_app.specs.DrawnTile.{point_of_number}
use Rattle.tile_app.proofs.Prototiles.{its-vertices, each-its-vertex}
use Rattle.tile_app.proofs.Outlines.{first-is}
use Rattle.tile_app.proofs.drawn_tile.overwrite_first_half.Goals as goal

pub returns-clause-placed : goal.returns-clause-placed
returns-clause-placed c =
    let m = c.args.machine.now in
    let x = c.args.half.now in
    let e = c.of-after.result in
    let split = c.split_at_mut-behind.ensures in
    let vs = c.vertices-each_edge.result.now in
    let each = each-its-vertex m x.kind vs (its-vertices m c.checked.result.now x.kind vs c.checked.ensures.rule
    c.vertices-each_edge.ensures.numbers c.vertices-each_edge.ensures.each_edge c.vertices-each_edge.ensures.small) in
    let all = c.requires.as_many in
    let exists = c.of-after.ensures.exists in
    ap₂ (λ xs ys. xs ++ ys) c.overwrite.ensures.placed c.overwrite-2.ensures.placed
    ∙ first-is (point_of_number m.order) (moved (points_of m.order) (motion_in m.order x.motion)) (vertices_of (rule_of m) x.kind) e _ _
    (omega (arith, all, each, exists, split.front_len)) (omega (arith, all, each, exists, split.back_len))
    ∙ ap (λ k. map (point_of_number m.order) (begun_behind k (map (moved (points_of m.order) (motion_in m.order x.motion))
    (vertices_of (rule_of m) x.kind)))) c.of-after.ensures.edge
