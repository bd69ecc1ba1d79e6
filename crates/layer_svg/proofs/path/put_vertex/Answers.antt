use Rattle.std.proofs.Common.{◌≡◌, ◌+◌, ◌*◌, ◌^◌, ℤ, to_z, of_z, w64, ap, ◌∙◌, arith}
use Rattle.std.proofs.lemmas.Grind.{common_steps}
use Rattle.std.proofs.lemmas.Int.{ints}
use Rattle.std.specs.Int.{w128}
use Rattle.cyclo_points.specs.Order.{points_of}
use Rattle.cyclo_points.specs.Point.{Within}
use Rattle.cyclo_points.specs.Thousandths.{thousandths}
use Rattle.cyclo_points.proofs.Within.{point_wider, real_wider}
use Rattle.layer_svg.proofs.Vertices.{vertex_from}
use Rattle.layer_svg.proofs.path.put_vertex.Goals as goal

pub x-requires : goal.x-requires
x-requires c =
    record {
      p_within = point_wider (2 ^ 25 + 2 ^ 25) (2 ^ 40) c.sub-offset.result (omega arith)
          (c.sub-offset.ensures.bounded (2 ^ 25) (2 ^ 25) c.requires.near.within c.requires.centre.within);
    }

pub floor_thousandths-across-requires : goal.floor_thousandths-across-requires
floor_thousandths-across-requires c =
    record {
      r_within = real_wider (4 * (2 ^ 25 + 2 ^ 25)) (2 ^ 30) c.x.result (omega arith)
          (c.x.ensures.bounded (2 ^ 25 + 2 ^ 25) (c.sub-offset.ensures.bounded (2 ^ 25) (2 ^ 25) c.requires.near.within c.requires.centre.within));
    }

pub y-requires : goal.y-requires
y-requires c =
    record {
      p_within = point_wider (2 ^ 25 + 2 ^ 25) (2 ^ 40) c.sub-offset.result (omega arith)
          (c.sub-offset.ensures.bounded (2 ^ 25) (2 ^ 25) c.requires.near.within c.requires.centre.within);
    }

pub floor_thousandths-up-requires : goal.floor_thousandths-up-requires
floor_thousandths-up-requires c =
    record {
      r_within = real_wider (2 * (2 ^ 25 + 2 ^ 25)) (2 ^ 30) c.y.result (omega arith)
          (c.y.ensures.bounded (2 ^ 25 + 2 ^ 25) (c.sub-offset.ensures.bounded (2 ^ 25) (2 ^ 25) c.requires.near.within c.requires.centre.within));
    }

read : (z : ℤ) → Within (2 ^ 43) z → to_z w64 (of_z w64 (to_z w128 (of_z w128 z))) ≡ z
read z h = omega (arith, ints)

pub returns-clause-vertex : goal.returns-clause-vertex
returns-clause-vertex c =
    let o = c.args.view.now.order in
    let across = c.floor_thousandths-across in
    let up = c.floor_thousandths-up in
    vertex_from c.args.view.now c.args.vertex.now _ _ c.args.line.now _ _ _
    (read up.result up.ensures.bounded ∙ up.ensures.value
    ∙ ap (thousandths o) (c.y.ensures.coordinate
    ∙ ap (points_of o).y (c.sub-offset.ensures.is_difference o)))
    (read across.result across.ensures.bounded ∙ across.ensures.value
    ∙ ap (thousandths o) (c.x.ensures.coordinate
    ∙ ap (points_of o).x (c.sub-offset.ensures.is_difference o)))
    c.put_signed.ensures.number c.put.ensures c.put_signed-2.ensures.number

pub returns-clause-at_most : goal.returns-clause-at_most
returns-clause-at_most c = grind (arith, common_steps)
