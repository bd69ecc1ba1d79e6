use Rattle.std.proofs.Common.{◌≡◌, ◌<◌, length, slice_set, rules}
use Rattle.tiling_c.specs.Shown.{tile_shown}
use Rattle.tiling_c.proofs.Fronts.{front_more, behind_more}
use Rattle.tiling_c.proofs.cover.put_tiles.Goals as goal

pub loop-place-preserved : goal.loop-place-preserved
loop-place-preserved c =
    let i = c.loop-place.place in let all = c.args.covered.now in let tiles = c.loop-place.tiles in let tile = c.tile-tile.result in
    let in_all : i < length all = search rules in
    let in_tiles : i < length tiles = search rules in
    let room : length (slice_set tiles i c.placed.result) ≡ length c.args.tiles.now = search rules in
    record {
      room = room;
      front = front_more tile_shown all tiles i tile c.placed.result in_all in_tiles c.tile-tile.ensures
          c.placed.ensures c.loop-place.invariant.front;
      behind = behind_more tiles c.args.tiles.now i c.placed.result c.loop-place.invariant.behind;
    }
