use Rattle.std.proofs.Common.{◌*◌, ◌^◌, lit≤}
use Rattle.cyclo_points.proofs.Within.{point_wider}
use Rattle.tile_place.proofs.hold.corner.Goals as goal

pub add-corner-requires-clause-p_within : goal.add-corner-requires-clause-p_within
add-corner-requires-clause-p_within c = point_wider (8 * 2 ^ 25 * 64) (2 ^ 40) _ (lit≤ tt)
    (c.mul.ensures.bounded (2 ^ 25) 64 c.requires.scale_within c.requires.vertex_within)
