use Rattle.std.proofs.Common.{◌*◌, ◌^◌, lit≤}
use Rattle.cyclo_points.proofs.Within.{real_wider}
use Rattle.trial_plain_tiles.proofs.drawn_tile.Spot.of.Goals as goal

pub floor_thousandths-requires-2 : goal.floor_thousandths-requires-2
floor_thousandths-requires-2 c = record {
  r_within = real_wider (2 * 2 ^ 24) (2 ^ 30) c.y.result (lit≤ tt)
      (c.y.ensures.bounded (2 ^ 24) (c.near.ensures.limit c.if-not-near.false));
}

pub floor_thousandths-requires : goal.floor_thousandths-requires
floor_thousandths-requires c = record {
  r_within = real_wider (4 * 2 ^ 24) (2 ^ 30) c.x.result (lit≤ tt)
      (c.x.ensures.bounded (2 ^ 24) (c.near.ensures.limit c.if-not-near.false));
}
