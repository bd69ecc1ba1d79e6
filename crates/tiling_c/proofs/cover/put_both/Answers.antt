use Rattle.std.proofs.Common.{◌≡◌, ◌<◌, ◌≤◌, length, slice_set, rules}
use Rattle.c_values.specs.declared.plain_address.PlainAddress.{PlainAddress}
use Rattle.c_values.specs.Addresses.{address_in}
use Rattle.tiling_c.specs.Shown.{tile_shown, address_shown}
use Rattle.tiling_c.proofs.Fronts.{front_more, seen_more, behind_more, all_more}
use Rattle.tiling_c.proofs.cover.put_both.Goals as goal

pub loop-place-preserved : goal.loop-place-preserved
loop-place-preserved c =
    let i = c.loop-place.place in let all = c.args.covered.now in let tiles = c.loop-place.tiles in let addrs
    = c.loop-place.addrs in let tile = c.tile-tile.result in
    let in_all : i < length all = search rules in
    let in_tiles : i < length tiles = search rules in
    let in_addrs : i < length addrs = search rules in
    let room : length (slice_set tiles i c.placed.result) ≡ length c.args.tiles.now = search rules in
    let same : length (slice_set addrs i c.write.new.self) ≡ length c.args.addrs.now = search rules in
    record {
      room = room;
      same = same;
      front = front_more tile_shown all tiles i tile c.placed.result in_all in_tiles c.tile-tile.ensures
          c.placed.ensures c.loop-place.invariant.front;
      behind = behind_more tiles c.args.tiles.now i c.placed.result c.loop-place.invariant.behind;
      addresses_front = seen_more address_in address_shown all addrs i tile c.write.new.self in_all in_addrs
          c.tile-tile.ensures c.write.ensures.its_digits c.loop-place.invariant.addresses_front;
      no_deeper = all_more (λ (p : PlainAddress). p.depth ≤ 64) addrs i c.write.new.self in_addrs
          c.loop-place.invariant.no_deeper c.write.ensures.no_deeper;
      addresses_behind = behind_more addrs c.args.addrs.now i c.write.new.self c.loop-place.invariant.addresses_behind;
    }
