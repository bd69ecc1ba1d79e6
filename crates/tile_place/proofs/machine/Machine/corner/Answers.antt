use Rattle.std.proofs.Common.{◌^◌, ◌+◌, lit≤}
use Rattle.cyclo_points.proofs.Within.{point_wider}
use Rattle.rule_model.specs.Tiling.{tiling_of}
use Rattle.tile_place.proofs.TurnedPlaces.{corner-of}
use Rattle.tile_place.proofs.machine.Machine.corner.Goals as goal

pub add-requires-clause-p_within : goal.add-requires-clause-p_within
add-requires-clause-p_within c = point_wider (2 ^ 7) (2 ^ 40) _ (lit≤ tt) c.turned_vertex-turned.ensures.within

pub add-requires-clause-q_within : goal.add-requires-clause-q_within
add-requires-clause-q_within c = point_wider (2 ^ 24) (2 ^ 40) _ (lit≤ tt) c.requires.shift_within

pub returns : goal.returns
returns c =
    let t = tiling_of c.args.self.now in
    let turned = c.turned_vertex-turned.ensures in
    corner-of t c.args.kind c.args.motion.now c.args.number c.turned_vertex-turned.result c.add.result turned (c.add.ensures.sum t.order)
    (point_wider (2 ^ 7 + 2 ^ 24) (2 ^ 25) _ (lit≤ tt) (c.add.ensures.bounded (2 ^ 7) (2 ^ 24) turned.within c.requires.shift_within))
    (c.add.ensures.in_order t.order turned.in_order c.requires.in_order)
